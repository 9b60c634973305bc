-- Text that is gathered in a buffer: how many bytes of it hold text, or, above all that it has, that a write failed.
use Rattle.std.specs.Prelude.{List, ◌⊎◌, ◌≡◌, ℕ, ◌+◌, ◌<◌, ◌≤◌, set}

abbrev pub room : ℕ
room = 65536

-- what is used after the text was to be written out: nothing, or the write failed, which is never forgotten
pub record Flushed (used r : ℕ) : Type 0 where
  pub written : used ≤ room → (r ≡ 0) ⊎ (room < r)
  pub failed : room < used → r ≡ used

-- one byte more: where there is room it stands after the text; a full buffer is written out first; after a write that failed nothing changes
pub record Put (used byte : ℕ) (before : List ℕ) (r : ℕ) (after : List ℕ) : Type 0 where
  pub fits : used < room → (r ≡ used + 1) × (after ≡ set before used byte)
  pub full : used ≡ room → ((r ≡ 1) × (after ≡ set before 0 byte)) ⊎ ((room < r) × (after ≡ before))
  pub failed : room < used → (r ≡ used) × (after ≡ before)
