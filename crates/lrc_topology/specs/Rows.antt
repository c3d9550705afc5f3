-- Entries of `node`, as the laws use them.
use Rattle.std.specs.Prelude.{ℕ, ℤ, pos, codes, List, [], ◌∷◌}
use Rattle.toml.specs.Data.{Data, integer, table, Members, no_members, member}
use Rattle.lrc_topology.specs.declared.NodeInfo.{NodeInfo}

-- a table with a value at each of the four keys
abbrev pub entry_with : Data → Data → Data → Data → Data
entry_with number fault upgrade slots =
    table (member (codes "fault") fault (member (codes "number") number (member (codes "slots") slots (member (codes "upgrade") upgrade no_members))))

-- a table with a whole number at each of the four keys
abbrev pub entry : ℤ → ℤ → ℤ → ℤ → Data
entry number fault upgrade slots = entry_with (integer number) (integer fault) (integer upgrade) (integer slots)

-- a table with values at other keys too
abbrev pub entry_beside : Data → ℤ → ℤ → ℤ → ℤ → Data
entry_beside other number fault upgrade slots =
    table (member (codes "Number") other (member (codes "fault") (integer fault) (member (codes "number") (integer number)
    (member (codes "slots") (integer slots) (member (codes "upgrade") (integer upgrade) (member (codes "zone") other no_members))))))

-- the entry of a node
abbrev pub entry_of : NodeInfo → Data
entry_of n = entry (pos n.number.value) (pos n.fault.value) (pos n.upgrade.value) (pos n.slots)

-- the entry of some node with this number
abbrev pub numbered : ℕ → Data
numbered number = entry (pos number) (pos 0) (pos 0) (pos 1)

-- a table with the number 1 at each of these keys
abbrev pub members_at : List (List ℕ) → Members
members_at [] = no_members
members_at (key ∷ keys) = member key (integer (pos 1)) (members_at keys)
