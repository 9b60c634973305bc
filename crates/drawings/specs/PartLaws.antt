-- One byte after another of a text that is searched.
use Rattle.std.specs.Prelude.{◌≡◌, ℕ, suc, ◌+◌, ◌<◌, ◌≤◌, List, length, drop, ◌≢◌, slice_index}
use Rattle.std.proofs.Math.Path.{refl}
use Rattle.std.proofs.Common.{add-one, eq-eqb, ne_eqb, drop_of_length-le, drop-cons}
use Rattle.drawings.specs.Part.{index_of}

module _ (byte : ℕ) (text : List ℕ) (i : ℕ) where
  pub index-here : i < length text → slice_index text i ≡ byte → index_of byte (drop i text) ≡ 0
  unfolding index_of
  index-here h e = rw (drop-cons text i 0 h) (rw (eq-eqb (slice_index text i) byte e) refl)

  pub index-later : i < length text → (slice_index text i ≢ byte) → index_of byte (drop i text) ≡ suc (index_of byte (drop (i + 1) text))
  unfolding index_of
  index-later h e = rw (drop-cons text i 0 h, add-one) (rw (ne_eqb (slice_index text i) byte e) refl)

  pub index-end : length text ≤ i → index_of byte (drop i text) ≡ 0
  unfolding index_of
  index-end h = rw (drop_of_length-le text h) refl
