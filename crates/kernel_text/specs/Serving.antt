-- Which sets of classes of a kernel serve goals.
use Rattle.std.specs.Prelude.{◌≡◌, ◌↔◌, true, ℕ, List, length, map}
use Rattle.kernel_text.specs.{Images.{image_of, is_named_by}, KernelReads.{KernelContent}}
use Rattle.kernel_text.specs.{KernelText.{IsWritable}, declared.member.Member.{Member}}
use Rattle.repo_model.specs.declared.goals.Goal.{Goal}
use Rattle.listed.specs.Lists.{In}
use Rattle.row_book.specs.{Repository.{Healthy}, Sets.{HitsAll, Is, NumSet}}

-- for each goal the classes that it names
abbrev pub images_in : KernelContent → List Goal → List (List ℕ)
images_in kernel goals = map (image_of kernel.members (length kernel.repository.clauses)) goals

-- the goal names a package of a class in the set
pub record HasClassFor (members : List Member) (I : NumSet) (goal : Goal) : Type 0 where
  pub by : Member
  pub listed : In by members
  pub named : is_named_by goal by ≡ true
  pub alive : Is I by.class

-- a healthy set of classes that has one for each goal
pub record ServesStored (kernel : KernelContent) (goals : List Goal) (I : NumSet) : Type 0 where
  pub healthy : Healthy kernel.repository I
  pub each : (goal : Goal) → In goal goals → HasClassFor kernel.members I goal

-- goals are co-installable in a kernel if some set of classes serves them
pub record CoinstStored (kernel : KernelContent) (goals : List Goal) : Type 0 where
  pub whole : NumSet
  pub serves : ServesStored kernel goals whole

-- a healthy set serves goals exactly if it hits the classes that each of them names
abbrev pub ImagesServe : Type 0
ImagesServe = (kernel : KernelContent) →
    IsWritable kernel.format kernel.repository kernel.members kernel.held →
    (goals : List Goal) (I : NumSet) → Healthy kernel.repository I →
    (ServesStored kernel goals I ↔ HitsAll I (images_in kernel goals))
