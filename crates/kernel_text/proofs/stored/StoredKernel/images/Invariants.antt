use Rattle.std.proofs.Common.{◌≡◌, length, map, take}
use Rattle.kernel_text.specs.Images.{image_of}
use Rattle.kernel_text.proofs.GoalImages.{IsAhead}
use Rattle.kernel_text.proofs.stored.StoredKernel.images.Given as goal

abbrev pub invariant-loop-place : goal.invariant-loop-place
invariant-loop-place l = record {
  images : l.needs ≡ map (image_of l.members (length l.self.book.rows)) (take l.place l.goals);
  ahead : IsAhead l.members l.goals l.place;
}
