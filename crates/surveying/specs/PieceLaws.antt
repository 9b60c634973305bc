-- What the loop over pieces goes by.
use mathlib.Core.List.{List, [], ◌∷◌}
use Rattle.std.specs.Prelude.{◌≡◌, length, take, drop}
use Rattle.std.proofs.Math.Path.{refl, ap}
use Rattle.std.proofs.Common.{◌∙◌, arith, drop_of_length-le, drop-cons, drop-drop}
use Prim.Native.Nat.{ℕ, zero, suc, ◌+◌, ◌≤◌, ◌<◌}
use Rattle.scanning.specs.Pieces.{piece_of}
use Rattle.surveying.specs.States.{WatchedAt}
use Rattle.surveying.specs.Drawing.{piece_done, watched_from}

module _ (k : ℕ) (w : WatchedAt) (block : List ℕ) (at : ℕ) where
  pub watched-one : at < length block → let n = piece_of w.mode w.escapes.state (drop at block) in
      watched_from (suc k) w (drop at block) ≡ watched_from k (piece_done w (take n (drop at block))) (drop (at + n) block)
  unfolding watched_from
  watched-one h = go (drop at block) (drop-cons block at 0 h) ∙ ap (watched_from k (piece_done w (take n (drop at block)))) (drop-drop n at block)
    where
      n : ℕ
      n = piece_of w.mode w.escapes.state (drop at block)

      go : {x : ℕ} {xs : List ℕ} (l : List ℕ) → l ≡ x ∷ xs → let n = piece_of w.mode w.escapes.state l in watched_from (suc k) w l ≡ watched_from k (piece_done w (take n l)) (drop n l)
      go [] e = absurd (omega (arith, ap length e))
      go (b ∷ bs) e = refl

  pub watched-end : length block ≤ at → watched_from k w (drop at block) ≡ w
  unfolding watched_from
  watched-end h = ap (watched_from k w) (drop_of_length-le block h) ∙ go k
    where
      go : (k : ℕ) → watched_from k w [] ≡ w
      go zero = refl
      go (suc k) = refl

pub watched-none : (w : WatchedAt) (l : List ℕ) → watched_from 0 w l ≡ w
unfolding watched_from
watched-none w l = refl
