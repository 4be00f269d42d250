-- Texts of small kernels, computed.
use Rattle.std.proofs.Common.{◌≡◌, List, [], ◌∷◌, ◌++◌, codes, refl}
use Rattle.std.specs.Fmt.{digits}
use Rattle.row_book.specs.{Numbers.{numbers}, Repository.{Repository}}
use Rattle.kernel_text.specs.{declared.member.Member.{Member}, KernelLines.{line_text, lines_of}, KernelText.{class_lines, kernel_lines, kernel_text}}

empty : Repository
empty = record { clauses = []; conflicts = [] }

empty_text : kernel_text 1 empty [] [] ≡ codes "coinst-kernel 1" ++ 10 ∷ [] ++ codes "end 0 0" ++ 10 ∷ []
unfolding empty kernel_text kernel_lines line_text numbers digits
empty_text = refl

-- a needs b or c, which conflict
three : Repository
three = record { clauses = ((1 ∷ 2 ∷ []) ∷ []) ∷ [] ∷ [] ∷ []; conflicts = [] ∷ (2 ∷ []) ∷ (1 ∷ []) ∷ [] }

member_list : List Member
member_list = record { class = 0; name = 97 ∷ []; version = 49 ∷ [] } ∷ record { class = 1; name = 98 ∷ []; version = 49 ∷ [] } ∷ record { class = 2; name = 99 ∷ []; version = 49 ∷ [] } ∷ []

three_lines : lines_of (kernel_text 1 three member_list []) ≡
    (codes "coinst-kernel 1" ++ 10 ∷ []) ∷ (codes "class 0" ++ 10 ∷ []) ∷ (codes "member a 1" ++ 10 ∷ []) ∷ (codes "needs 1 2" ++ 10 ∷ []) ∷
    (codes "class 1" ++ 10 ∷ []) ∷ (codes "member b 1" ++ 10 ∷ []) ∷ (codes "against 2" ++ 10 ∷ []) ∷ (codes "class 2" ++ 10 ∷ []) ∷ (codes "member c 1" ++ 10 ∷ []) ∷
    (codes "end 3 3" ++ 10 ∷ []) ∷ []
unfolding three member_list kernel_text kernel_lines class_lines line_text numbers digits
three_lines = refl

-- the same where a is held
held_lines : lines_of (kernel_text 2 three member_list (0 ∷ [])) ≡
    (codes "coinst-kernel 2" ++ 10 ∷ []) ∷ (codes "class 0" ++ 10 ∷ []) ∷ (codes "member a 1" ++ 10 ∷ []) ∷ (codes "held" ++ 10 ∷ []) ∷ (codes "needs 1 2" ++ 10 ∷ []) ∷
    (codes "class 1" ++ 10 ∷ []) ∷ (codes "member b 1" ++ 10 ∷ []) ∷ (codes "against 2" ++ 10 ∷ []) ∷ (codes "class 2" ++ 10 ∷ []) ∷ (codes "member c 1" ++ 10 ∷ []) ∷
    (codes "end 3 3" ++ 10 ∷ []) ∷ []
unfolding three member_list kernel_text kernel_lines class_lines line_text numbers digits
held_lines = refl
