-- Hashes of lists.
use Rattle.std.specs.{Prelude.{ℕ, ◌*◌, ◌/◌, ◌%◌, ◌^◌, List, bit_xor}, List.{fold}}
use Rattle.std.specs.Hash.FoldHasher.{initial, write, finish}

-- the hash of numbers followed by one more number
unfoldable pub hash_with : ℕ → ℕ → ℕ
hash_with hash number = (bit_xor hash number * 0x9e37_79b9_7f4a_7c15) % 2 ^ 64

-- the hash of numbers in 64 bits
abbrev pub mixed : List ℕ → ℕ
mixed numbers = fold hash_with 0x243f_6a88_85a3_08d3 numbers

-- the upper half of 64 bits
abbrev pub upper_half : ℕ → ℕ
upper_half hash = hash / 2 ^ 32

-- the hash of numbers
abbrev pub hash_of_numbers : List ℕ → ℕ
hash_of_numbers numbers = upper_half (mixed numbers)

-- the hash of bytes, which are taken in groups
abbrev pub hash_of_bytes : List ℕ → ℕ
hash_of_bytes bytes = upper_half (finish (write initial bytes))
