-- The rest of a block, and what a read appends to it.
use Rattle.std.specs.Prelude.{◌≡◌, ℕ, List, [], ◌++◌, length, take, drop, ◌-◌, Option, Some, None}
use Rattle.mono_text.specs.Environment.{HasRead}
use Rattle.lease_server.specs.declared.blocks.Block.{Block}

-- The bytes that were read and are not taken yet.
abbrev pub rest_of : Block → List ℕ
rest_of block = take (block.end - block.start) (drop block.start block.buffer.items)

-- How many bytes the block can hold.
abbrev pub size_of : Block → ℕ
size_of block = length block.buffer.items

-- This many bytes were read off the front of what the source had left, and were appended to the rest.
abbrev pub HasTaken : Option (List ℕ) → List ℕ → ℕ → Option (List ℕ) → List ℕ → Type 0
HasTaken before rest count after now = (bytes : List ℕ) × (length bytes ≡ count) × HasRead before bytes after × (now ≡ rest ++ bytes)

-- Nothing is left, if the source exposes what is left.
abbrev pub IsAtEnd : Option (List ℕ) → Type 0
IsAtEnd None = Unit {0}
IsAtEnd (Some left) = left ≡ []
