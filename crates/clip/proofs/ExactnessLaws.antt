-- Laws: what `clip` shows and hides is exact, in the words of Exactness.antt.
use Rattle.std.specs.Prelude.{◌≡◌, ℕ, ◌+◌, ◌-◌, ◌≤◌, ◌<◌, Some, None}
use Rattle.std.proofs.Common.{sym, ap, ◌∙◌, arith}
use Rattle.clip.specs.Clip.{entry, place, clip}
use Rattle.clip.specs.Line.{exactly, at, Within}
use Rattle.clip.specs.Exactness.{Part, Ends}
use Rattle.clip.proofs.Crossing.{all, till, all_above, crosses, within, entry-is, start-nearest, stop-nearest, shows, hidden≢, fits, crossed, from_start, from-stop}
use Rattle.clip.specs.declared.Point.{Point}
use Rattle.clip.specs.declared.Rect.{Rect}

-- what is shown is exact
pub exact-part : (r : Rect) (a b s t : Point) → clip r a b ≡ Some (s, t) → Part r a b
exact-part r a b s t h =
    let f : till r a b + till r b a ≤ all a b = fits r a b s t h in
    record {
      first = till r a b;
      last = all a b - till r b a;
      parts = all a b;
      some = all_above a b;
      order = omega arith;
      upto = omega arith;
      points = λ k n l p. (
        (λ w. let c = crosses r a b k n l p w in (c.after, from_start k (n - k) n (all a b) (till r b a) _ (omega arith) (omega arith) c.before)),
        (λ c. within r a b k n l p (record { after = c.0; before = from-stop k (n - k) n (all a b) (till r b a) _ (omega arith) (omega arith) c.1 })),
      );
    }

-- what is shown is one stroke
pub of_some : {A : Type 0} {x y : A} → Some x ≡ Some y → x ≡ y
of_some e = cc

pub exact-ends : (r : Rect) (a b s t : Point) (h : clip r a b ≡ Some (s, t)) → Ends (exact-part r a b s t h) s t
unfolding exact-part
exact-ends r a b s t h =
    let f : till r a b + till r b a ≤ all a b = fits r a b s t h in
    let both : ◌≡◌ {A = Point × Point} (s, t) (place a b (entry r a b), place b a (entry r b a)) = of_some (sym h ∙ shows r a b f) in
    let es = ap (λ (e : Point × Point). e.0) both in
    let et = ap (λ (e : Point × Point). e.1) both in
    record {
      start = es ∙ start-nearest a b (entry r a b) (till r a b) (entry-is r a b) (omega arith);
      stop = et ∙ stop-nearest a b (entry r b a) (till r b a) (entry-is r b a) (omega arith);
    }

-- a segment with a point in the box is shown, and so what is hidden has none
pub exact-shown : (r : Rect) (a b : Point) (k n : ℕ) → k ≤ n → (p : 0 < n) → Within r 0 (at (exactly a) (exactly b) k n p) → (s : Point) × (t : Point) × (clip r a b ≡ Some (s, t))
exact-shown r a b k n l p w = (_, _, shows r a b (crossed r a b k n l p (crosses r a b k n l p w)))

pub exact-hidden : (r : Rect) (a b : Point) → clip r a b ≡ None → (k n : ℕ) → k ≤ n → (p : 0 < n) → ¬ Within r 0 (at (exactly a) (exactly b) k n p)
exact-hidden r a b h k n l p w = hidden≢ (sym h ∙ (exact-shown r a b k n l p w).2)
