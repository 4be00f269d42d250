use Rattle.std.proofs.Common.{◌≡◌, ℕ, ◌+◌, ◌≤◌, ◌-◌, List, ◌++◌, length, take}
use Rattle.std.specs.Prelude.{count_by}
use Rattle.stanza_reader.specs.{Lines.{is_line_feed}, Places.{IsPlace}, Reading.{readings_at}, Stanzas.{readings}}
use Rattle.repo_model.specs.{Building.{IsBuilt}, Feeding.{IsFront}, Limits.{most_packages}}
use Rattle.repo_model.proofs.Steps.{IsRead}
use Rattle.repo_model.proofs.reading.read_behind.Given as goal

abbrev pub invariant-loop-building : goal.invariant-loop-building
invariant-loop-building l = record {
  place : IsPlace l.part l.at;
  counted : l.at.line ≡ l.fn.line + count_by is_line_feed (take l.at.offset l.part);
  few : length l.building.packages ≤ most_packages;
  built : IsBuilt l.building;
  read : (text : List ℕ) → IsFront l.fn.front l.fn.line text → IsRead (readings (text ++ l.part)) (readings_at l.part l.at) l.building.packages l.building.home.name;
}

abbrev pub decreases-loop-building : goal.decreases-loop-building
decreases-loop-building l = length l.part - l.at.offset
