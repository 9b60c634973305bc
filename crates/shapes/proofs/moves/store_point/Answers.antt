-- The proof of `store_point`: by its test; the sum of bytes fits, for both are bounded.
use Prim.Native.Nat.{◌+◌, ◌≤◌}
use native.Mathlib.Omega.{arith}
use mathlib.Core.Path.{refl, sym, ap, ◌∙◌}
use borrow.Author.Tests.{le-leb, lt-leb}
use Rattle.hpgl.specs.Numbers.{point_bytes, pen_bytes}
use Rattle.hpgl.specs.Rules.{edge_to, store_point}
use Rattle.hpgl.proofs.ValidFacts.{cost-most}
use Rattle.rulekit.specs.declared.hand.Hand.{Hand}
use Rattle.rulekit.specs.Hand.{pointed_of, location_in}
use Rattle.shapes.proofs.moves.store_point.Goals as goal

pub overflow_add-bytes : goal.overflow_add-bytes
overflow_add-bytes c =
    let h : c.point_cost-n.result ≤ point_bytes + pen_bytes = rw c.point_cost-n.ensures (cost-most c.args.h.pen) in
    record { fits = omega (arith, h, c.requires) }

pub returns-then-bytes-n-le-POLYGON_BYTES : goal.returns-then-bytes-n-le-POLYGON_BYTES
unfolding store_point edge_to pointed_of
returns-then-bytes-n-le-POLYGON_BYTES c =
    record {
      result_value = λ s g e q n.
          simp (
            e,
            q,
            c.moved-there.ensures,
            n,
            le-leb _ _ c.if-bytes-n-le-POLYGON_BYTES.true,
            ← c.point_cost-n.ensures,
          )
          refl;
      here_value = λ f e q. q ∙ ap (λ (h : Hand). location_in f h.position) (sym c.moved-there.ensures);
    }

pub returns : goal.returns
unfolding store_point pointed_of
returns c =
    record { result_value = λ s g e q n. simp (n, lt-leb _ _ c.if-bytes-n-le-POLYGON_BYTES.false, ← c.point_cost-n.ensures) refl; here_value = λ f e q. e }
