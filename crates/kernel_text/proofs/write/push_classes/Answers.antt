use Rattle.row_book.specs.{Book.{repository_of}, Flags.{flag}}
use Rattle.kernel_text.specs.Writing.{block_text}
use Rattle.kernel_text.proofs.Written.{more_blocks, no_blocks}
use Rattle.kernel_text.proofs.write.push_classes.Goals as goal

pub loop-number-init : goal.loop-number-init
loop-number-init c = no_blocks (λ n. block_text (repository_of c.args.pool.now c.args.book.now) c.args.packages.now c.args.by_class.now (flag c.args.flags.now n) n) c.args.out.now.items

pub loop-number-preserved : goal.loop-number-preserved
loop-number-preserved c =
    more_blocks (λ n. block_text (repository_of c.args.pool.now c.args.book.now) c.args.packages.now c.args.by_class.now (flag c.args.flags.now n) n) c.loop-number.number c.args.out.now.items c.loop-number.out.items
    c.push_class.new.out.items c.loop-number.invariant c.in_ok-push_class.ensures
