-- The store against the polygon: one point more is one edge more at the end, a subpolygon that is ended adds the edge to its first point or none, five points are
-- four edges; and drawn, the edges are the polygon's sides. Why: locations are the nearest whole points of exact positions, so edges are equal, not only near.
use Rattle.std.specs.Prelude.{◌≡◌, Bool, not, ◌&&◌, ℕ, zero, suc, ◌+◌, ◌<◌, length, get_or, set}
use Rattle.std.proofs.Math.Path.{refl, sym, ap, ap₂}
use Rattle.std.proofs.Common.{◌∙◌, subst, get_or-set_same, get_or-set_other}
use Rattle.std.proofs.Math.Bool.{true, false, cond}
use mathlib.Core.List.{List, [], ◌∷◌, ◌++◌, append_assoc, append-nil}
use native.Mathlib.Omega.{arith}
use Rattle.std.proofs.Math.ListN.{length-set}
use Rattle.clip.specs.Line.{nearest}
use Rattle.plane.proofs.PositionLaws as plane
use Rattle.hpgl.proofs.Cases.{never}
use Rattle.hpgl.specs.declared.Position.{Position}
use Rattle.hpgl.specs.declared.Settings.{Settings}
use Rattle.hpgl.specs.declared.Polygon.{Polygon}
use Rattle.hpgl.specs.declared.Core.{Core}
use Rattle.hpgl.specs.declared.Edge.{Edge}
use Rattle.hpgl.specs.declared.Action.TheVariants.{Keep, Join}
use Rattle.hpgl.specs.Numbers.{most_edges}
use Rattle.hpgl.specs.Place.{point, axis_x, axis_y, exact_position, location}
use Rattle.hpgl.specs.Rules.{differ, longer, ended_with, rectangular}
use Rattle.hpgl.specs.Machine.{no_edge, rectangle_edges, stored}
use Rattle.hpgl.specs.ExactModel.{PolygonPoint, Subpolygon, ExactPolygon, ExactSegment, exact_segment, sides_from, sides, all_sides, outline, last_of, closed, end_current, rectangle}
use Rattle.hpgl.specs.Related.{Sound, edges_from, joined, edges_after, edges_of, all_edges, polygon_edges, Open, none, some, Linked, PageSegment, turned_edges, on_page}

-- "the location is that, rounded"
pub location-nearest : (s : Settings) (p : Position) → Sound s → location s p ≡ nearest (exact_position s p)
unfolding location exact_position
location-nearest s p w = λ i. point (plane.location-nearest (axis_x s) p.x w.x i) (plane.location-nearest (axis_y s) p.y w.y i)

-- ---- the store with one edge more

put-at : (es : List Edge) (i n k : ℕ) (v : Edge) → k ≡ i + n → k < length es → edges_from (set es k v) i (suc n) ≡ edges_from es i n ++ (v ∷ [])
unfolding edges_from
put-at es i zero k v e h =
    let q : i ≡ k = omega arith in
    subst (λ (z : ℕ). get_or (set es k v) z no_edge ∷ [] ≡ v ∷ []) (sym q) (ap (λ (x : Edge). x ∷ []) (get_or-set_same es k v no_edge h))
put-at es i (suc n) k v e h =
    let head : get_or (set es k v) i no_edge ≡ get_or es i no_edge = get_or-set_other es k i v no_edge (λ q. omega arith) in
    let tail : edges_from (set es k v) (i + 1) (suc n) ≡ edges_from es (i + 1) n ++ (v ∷ []) = put-at es (i + 1) n k v (omega arith) h in
    λ j. head j ∷ tail j

pub one_more : (es : List Edge) (k : ℕ) (v : Edge) → length es ≡ most_edges → k < most_edges → edges_from (set es k v) 0 (k + 1) ≡ edges_from es 0 k ++ (v ∷ [])
one_more es k v size h =
    let e : k + 1 ≡ suc k = omega arith in
    let small : k < length es = omega arith in
    rw e (put-at es 0 k k v (omega arith) small)

-- the first four edges written anew
first-four : (es : List Edge) (a b c d : Edge) → length es ≡ most_edges → edges_from (set (set (set (set es 0 a) 1 b) 2 c) 3 d) 0 4 ≡ a ∷ b ∷ c ∷ d ∷ []
unfolding edges_from
first-four [] a b c d h = absurd (omega arith)
first-four (x ∷ []) a b c d h = absurd (omega arith)
first-four (x ∷ y ∷ []) a b c d h = absurd (omega arith)
first-four (x ∷ y ∷ z ∷ []) a b c d h = absurd (omega arith)
first-four (x ∷ y ∷ z ∷ v ∷ es) a b c d h = refl

set-four : (es : List Edge) (a b c d : Edge) → length (set (set (set (set es 0 a) 1 b) 2 c) 3 d) ≡ length es
set-four es a b c d = simp length-set

-- ---- a subpolygon with one point more

edges-after-more : (p : PolygonPoint) (ps : Subpolygon) (x : PolygonPoint) → edges_after p (ps ++ (x ∷ [])) ≡ edges_after p ps ++ (joined (last_of p ps) x ∷ [])
unfolding edges_after last_of
edges-after-more p [] x = refl
edges-after-more p (q ∷ ps) x = ap (λ (l : List Edge). joined p q ∷ l) (edges-after-more q ps x)

last_more : (p : PolygonPoint) (ps : Subpolygon) (x : PolygonPoint) → last_of p (ps ++ (x ∷ [])) ≡ x
unfolding last_of
last_more p [] x = refl
last_more p (q ∷ ps) x = last_more q ps x

-- ---- ended subpolygons

all-edges-more : (ss : List Subpolygon) (s : Subpolygon) → all_edges (ss ++ (s ∷ [])) ≡ all_edges ss ++ edges_of s
unfolding all_edges
all-edges-more [] s = append-nil (edges_of s)
all-edges-more (r ∷ ss) s = ap (λ (l : List Edge). edges_of r ++ l) (all-edges-more ss s) ∙ sym (append_assoc (edges_of r) (all_edges ss) (edges_of s))

-- the edge from a position to another, reached with the pen so
abbrev pub edge_between : Settings → Position → Position → Bool → Edge
edge_between s p q down = record { from = location s p; to = location s q; down = down }

module _ (s : Settings) (w : Sound s) where
  edge-joined : (p q : Position) (x y : PolygonPoint) → x.exact ≡ exact_position s p → y.exact ≡ exact_position s q → edge_between s p q y.down ≡ joined x y
  edge-joined p q x y e f = λ i. record {
    from = (location-nearest s p w ∙ ap nearest (sym e)) i;
    to = (location-nearest s q w ∙ ap nearest (sym f)) i;
    down = y.down;
  }

  -- ---- one point more

  grown-edges : (first last p : Position) (down empty : Bool) (es : List Edge) (n : ℕ) (ss : List Subpolygon) (ps : Subpolygon) →
      length es ≡ most_edges → n < most_edges → edges_from es 0 n ≡ all_edges ss ++ edges_of ps → Open s first last empty ps →
      edges_from (stored es n (cond empty Keep (Join (edge_between s last p down)))) 0 (cond empty n (n + 1))
      ≡ all_edges ss ++ edges_of (ps ++ (record { exact = exact_position s p; down = down } ∷ []))
  unfolding stored edges_of edges_after
  grown-edges first last p down empty es n ss ps size small h none = h
  grown-edges first last p down empty es n ss ps size small h (some {p = q} {ps = qs} a b) =
      let x : PolygonPoint = record { exact = exact_position s p; down = down } in
      one_more es n (edge_between s last p down) size small
      ∙ ap₂ (λ (l : List Edge) (e : Edge). l ++ (e ∷ [])) h (edge-joined last p (last_of q qs) x b refl)
      ∙ append_assoc (all_edges ss) (edges_after q qs) (joined (last_of q qs) x ∷ [])
      ∙ ap (λ (l : List Edge). all_edges ss ++ l) (sym (edges-after-more q qs x))

  grown-open : (first last p : Position) (down empty : Bool) (ps : Subpolygon) → Open s first last empty ps →
      Open s (cond empty p first) p false (ps ++ (record { exact = exact_position s p; down = down } ∷ []))
  unfolding last_of
  grown-open first last p down empty ps none = some refl refl
  grown-open first last p down empty ps (some {p = q} {ps = qs} a b) =
      some a (ap (λ (y : PolygonPoint). y.exact) (last_more q qs (record { exact = exact_position s p; down = down })))

  join-size : (es : List Edge) (n : ℕ) (empty : Bool) (e : Edge) → length es ≡ most_edges → length (stored es n (cond empty Keep (Join e))) ≡ most_edges
  unfolding stored
  join-size es n true e h = h
  join-size es n false e h = length-set es n e ∙ h

  pub grown : (last p : Position) (k : Polygon) (cost : ℕ) (down : Bool) (es : List Edge) (g : ExactPolygon) → k.edges < most_edges → k.mode ≡ true → Linked s last k es g →
      Linked s p (longer k cost p) (stored es k.edges (cond k.empty Keep (Join (edge_between s last p down))))
      (record { ended = g.ended; current = g.current ++ (record { exact = exact_position s p; down = down } ∷ []) })
  unfolding longer polygon_edges
  grown last p k cost down es g small m l = record {
    size = join-size es k.edges k.empty (edge_between s last p down) l.size;
    edges = grown-edges k.first last p down k.empty es k.edges g.ended g.current l.size small l.edges (l.current m);
    current = λ h. grown-open k.first last p down k.empty g.current (l.current m);
  }

  -- ---- a subpolygon is ended

  same-differ : (first last : Position) (q : PolygonPoint) (qs : Subpolygon) → q.exact ≡ exact_position s first → (last_of q qs).exact ≡ exact_position s last →
      differ (location s last) (location s first) ≡ differ (nearest (last_of q qs).exact) (nearest q.exact)
  same-differ first last q qs a b =
      ap₂ differ (location-nearest s last w ∙ ap nearest (sym b)) (location-nearest s first w ∙ ap nearest (sym a))

  closed-adds : (first last : Position) (down empty : Bool) (ps : Subpolygon) → Open s first last empty ps →
      not empty && differ (location s last) (location s first) ≡ true → edges_of (closed ps down) ≡ edges_of ps ++ (edge_between s last first down ∷ [])
  unfolding closed edges_of
  closed-adds first last down empty ps none h = never refl h
  closed-adds first last down empty ps (some {p = q} {ps = qs} a b) h = go (differ (nearest (last_of q qs).exact) (nearest q.exact)) (sym (same-differ first last q qs a b) ∙ h)
    where
      go : (t : Bool) → t ≡ true → edges_of (cond t (q ∷ (qs ++ (record { exact = q.exact; down = down } ∷ []))) (q ∷ qs)) ≡ edges_after q qs ++ (edge_between s last first down ∷ [])
      go true e =
          edges-after-more q qs (record { exact = q.exact; down = down })
          ∙ ap (λ (v : Edge). edges_after q qs ++ (v ∷ [])) (sym (edge-joined last first (last_of q qs) (record { exact = q.exact; down = down }) b a))
      go false e = never refl e

  closed-keeps : (first last : Position) (down empty : Bool) (ps : Subpolygon) → Open s first last empty ps →
      not empty && differ (location s last) (location s first) ≡ false → closed ps down ≡ ps
  unfolding closed
  closed-keeps first last down empty ps none h = refl
  closed-keeps first last down empty ps (some {p = q} {ps = qs} a b) h = go (differ (nearest (last_of q qs).exact) (nearest q.exact)) (sym (same-differ first last q qs a b) ∙ h)
    where
      go : (t : Bool) → t ≡ false → cond t (q ∷ (qs ++ (record { exact = q.exact; down = down } ∷ []))) (q ∷ qs) ≡ q ∷ qs
      go true e = never e refl
      go false e = refl

  ended-edges : (g : ExactPolygon) (down : Bool) → polygon_edges (end_current g down) ≡ all_edges g.ended ++ edges_of (closed g.current down)
  unfolding polygon_edges end_current edges_of
  ended-edges g down = append-nil (all_edges (g.ended ++ (closed g.current down ∷ []))) ∙ all-edges-more g.ended (closed g.current down)

  -- with the edge to its first point
  pub ended-closed : (last p : Position) (k : Polygon) (mode : Bool) (n : ℕ) (down : Bool) (es : List Edge) (g : ExactPolygon) → k.edges < most_edges → k.mode ≡ true →
      not k.empty && differ (location s last) (location s k.first) ≡ true → Linked s last k es g →
      Linked s p (ended_with k mode n 1) (stored es k.edges (Join (edge_between s last k.first down))) (end_current g down)
  unfolding ended_with stored polygon_edges end_current
  ended-closed last p k mode n down es g small m h l =
      let v : Edge = edge_between s last k.first down in
      record {
        size = length-set es k.edges v ∙ l.size;
        edges =
            one_more es k.edges v l.size small
            ∙ ap (λ (x : List Edge). x ++ (v ∷ [])) l.edges
            ∙ append_assoc (all_edges g.ended) (edges_of g.current) (v ∷ [])
            ∙ ap (λ (x : List Edge). all_edges g.ended ++ x) (sym (closed-adds k.first last down k.empty g.current (l.current m) h))
            ∙ sym (ended-edges g down);
        current = λ q. none;
      }

  -- or without
  pub ended-open : (last p : Position) (k : Polygon) (mode : Bool) (n : ℕ) (down : Bool) (es : List Edge) (g : ExactPolygon) → k.mode ≡ true →
      not k.empty && differ (location s last) (location s k.first) ≡ false → Linked s last k es g →
      Linked s p (ended_with k mode n 0) es (end_current g down)
  unfolding ended_with polygon_edges end_current
  ended-open last p k mode n down es g m h l =
      let e : k.edges + 0 ≡ k.edges = omega arith in
      record {
        size = l.size;
        edges =
            ap (edges_from es 0) e
            ∙ l.edges
            ∙ ap (λ (x : Subpolygon). all_edges g.ended ++ edges_of x) (sym (closed-keeps k.first last down k.empty g.current (l.current m) h))
            ∙ sym (ended-edges g down);
        current = λ q. none;
      }

  -- ---- a rectangle

  pub rectangle-linked : (p q last : Position) (k : Polygon) (es : List Edge) → length es ≡ most_edges →
      Linked s last (rectangular k) (rectangle_edges es (location s p) (location s q)) (rectangle s p q)
  unfolding rectangular rectangle_edges rectangle polygon_edges all_edges edges_of edges_after location
  rectangle-linked p q last k es size =
      let side : (u v : Position) → edge_between s u v true ≡ joined (record { exact = exact_position s u; down = true }) (record { exact = exact_position s v; down = true }) =
      λ u v. edge-joined u v (record { exact = exact_position s u; down = true }) (record { exact = exact_position s v; down = true }) refl refl in
      let f : Position = record { x = q.x; y = p.y } in
      let b : Position = record { x = p.x; y = q.y } in
      record {
        size = set-four es _ _ _ _ ∙ size;
        edges =
            first-four es (edge_between s p f true) (edge_between s f q true) (edge_between s q b true) (edge_between s b p true) size
            ∙ (λ i. side p f i ∷ side f q i ∷ side q b i ∷ side b p i ∷ []);
        current = λ h. never refl h;
      }

-- ---- drawn

turned-append : (t : ℕ) (xs ys : List Edge) → turned_edges t (xs ++ ys) ≡ turned_edges t xs ++ turned_edges t ys
unfolding turned_edges
turned-append t [] ys = refl
turned-append t (x ∷ xs) ys = rw (turned-append t xs ys) refl

page-append : (xs ys : List ExactSegment) → on_page (xs ++ ys) ≡ on_page xs ++ on_page ys
unfolding on_page
page-append [] ys = refl
page-append (x ∷ xs) ys = rw (page-append xs ys) refl

module _ (c : Core) where
  turned-from : (p : PolygonPoint) (ps : Subpolygon) → turned_edges c.settings.turn (edges_after p ps) ≡ on_page (sides_from c p ps)
  unfolding turned_edges edges_after on_page sides_from exact_segment
  turned-from p [] = refl
  turned-from p (q ∷ ps) = rw (turned-from q ps) refl

  turned-sides : (ps : Subpolygon) → turned_edges c.settings.turn (edges_of ps) ≡ on_page (sides c ps)
  unfolding edges_of sides turned_edges on_page
  turned-sides [] = refl
  turned-sides (p ∷ ps) = turned-from p ps

  turned-all : (ss : List Subpolygon) → turned_edges c.settings.turn (all_edges ss) ≡ on_page (all_sides c ss)
  unfolding all_edges all_sides turned_edges on_page
  turned-all [] = refl
  turned-all (s ∷ ss) =
      turned-append c.settings.turn (edges_of s) (all_edges ss)
      ∙ ap₂ (λ (x y : List PageSegment). x ++ y) (turned-sides s) (turned-all ss)
      ∙ sym (page-append (sides c s) (all_sides c ss))

  pub turned-outline : (g : ExactPolygon) → turned_edges c.settings.turn (polygon_edges g) ≡ on_page (outline c g)
  unfolding polygon_edges outline
  turned-outline g =
      turned-append c.settings.turn (all_edges g.ended) (edges_of g.current)
      ∙ ap₂ (λ (x y : List PageSegment). x ++ y) (turned-all g.ended) (turned-sides g.current)
      ∙ sym (page-append (all_sides c g.ended) (sides c g.current))
