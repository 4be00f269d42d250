-- Goals can be met, by their words, where they are co-installable.
use Rattle.suite_compare.specs.Indexes.{SearchedIndex}
use Rattle.std.proofs.Common.{◌≡◌, ℕ, ◌<◌, true, List, length}
use Rattle.coinst_words.specs.Usage.{Text}
use Rattle.deb_version.specs.Names.{is_name}
use Rattle.listed.specs.Lists.{In}
use Rattle.relation_fields.specs.{declared.packages.Home.{Home}, declared.packages.PackageFacts.{PackageFacts}}
use Rattle.repo_model.specs.{declared.goals.Goal.{Goal}, Goals.{CoinstGoals, HasOneFor}, Stanzas.{no_stanza, stanza_at, HealthyStanzas}}
use Rattle.row_book.specs.Sets.{Is, NumSet}
use Rattle.listed.proofs.Lists.{In_at}
use Rattle.claims.specs.{Control.{stanza_groups}, Index.{IndexSays, Says}, Goals.{CanMeet, HasEach}}
use Rattle.claims.proofs.{Goals.{AreGoals, goal_for, names_from, names_to, word_for}, Index.{zip_in}}

-- the packages of an index have names
pub says_named : (text : Text) (home : Home) (stanzas : List PackageFacts) → IndexSays text home stanzas → (n : ℕ) → n < length stanzas → is_name (stanza_at stanzas n).name ≡ true
says_named text home stanzas index n l = let w = zip_in (Says home) (stanza_groups text) stanzas (stanza_at stanzas n) index.each (In_at stanzas n no_stanza l) in w.2.name.1

pub each_from : (stanzas : List PackageFacts) (set : NumSet) (words : List Text) (goals : List Goal) → AreGoals words goals → ((goal : Goal) → In goal goals → HasOneFor stanzas set goal) → HasEach stanzas set words
each_from stanzas set words goals z served word i =
    let g = goal_for words goals z word i in
    let one : HasOneFor stanzas set g.0 = served g.0 g.1 in
    (one.by, one.member, names_from word (stanza_at stanzas one.by).name (stanza_at stanzas one.by).version g.0 g.2 one.named)

pub each_to : (stanzas : List PackageFacts) (set : NumSet) (words : List Text) (goals : List Goal) → AreGoals words goals → ((n : ℕ) → Is set n → is_name (stanza_at stanzas n).name ≡ true) → HasEach stanzas set words
    → (goal : Goal) → In goal goals → HasOneFor stanzas set goal
each_to stanzas set words goals z named served goal i =
    let w = word_for words goals z goal i in
    let one = served w.0 w.1 in
    record { by = one.0; member = one.1; named = names_to w.0 (stanza_at stanzas one.0).name (stanza_at stanzas one.0).version goal (named one.0 one.1) w.2 one.2 }

pub can_meet : (s : SearchedIndex) (words : List Text) (goals : List Goal) → AreGoals words goals → CoinstGoals s.home s.stanzas goals → CanMeet s words
can_meet s words goals z c = (c.whole, c.healthy, each_from s.stanzas c.whole words goals z c.serves)

pub meets_goals : (s : SearchedIndex) (words : List Text) (goals : List Goal) → AreGoals words goals → ((n : ℕ) → n < length s.stanzas → is_name (stanza_at s.stanzas n).name ≡ true) → CanMeet s words → CoinstGoals s.home s.stanzas goals
meets_goals s words goals z named c =
    let healthy : HealthyStanzas s.home s.stanzas c.0 = c.1 in
    record { whole = c.0; healthy = healthy; serves = each_to s.stanzas c.0 words goals z (λ n i. named n (healthy.numbers n i)) c.2 }
