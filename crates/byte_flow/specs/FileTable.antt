-- Files in memory, the newest first, and the place of the one reader.
use Rattle.std.specs.Prelude.{ℕ, List, [], drop, Option, Some, None, option_map, find, bytes_eq}
use Rattle.std.specs.Prelude.{string_bytes, slice_get}
use Rattle.byte_flow.specs.declared.file_table.FileTable.{FileTable}
use Rattle.byte_flow.specs.declared.file_table.StoredFile.{StoredFile}
use Rattle.byte_flow.specs.{declared.file_table.Place.{Place}, Flow.{Files}}

-- the bytes of the newest file with each path
abbrev pub stored_files : List StoredFile → Files
stored_files files = λ q.
    option_map (λ file. file.bytes.items) (find (λ file. bytes_eq (string_bytes file.path) q) files)

abbrev pub files_in : FileTable → Files
files_in table = stored_files table.files.items

-- the bytes of a file from an offset on; no bytes if there is no such file
abbrev pub bytes_from : Option StoredFile → ℕ → List ℕ
bytes_from None offset = []
bytes_from (Some file) offset = drop offset file.bytes.items

abbrev pub rest_at : List StoredFile → Option Place → List ℕ
rest_at files None = []
rest_at files (Some place) = bytes_from (slice_get files place.file) place.offset

-- the unread rest of the open file; no bytes if none is open
abbrev pub rest_in : FileTable → List ℕ
rest_in table = rest_at table.files.items table.place
