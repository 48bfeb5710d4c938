-- A packet that is being written.
use Rattle.std.specs.Prelude.{ℕ, ◌≤◌, List}

-- its Identifier, and the octets of its attributes so far
pub record Begun : Type 0 where
  pub id : ℕ
  pub attributes : List ℕ

-- it has room for a whole packet, and its header is there
pub record HasRoom (len capacity : ℕ) : Type 0 where
  pub header : 20 ≤ len
  pub whole : len ≤ 4096
  pub room : 4096 ≤ capacity
