-- What document 01 says of the polygon ("Rectangles and polygons"), said apart from the rules that machine and exact model share: its bytes are the sum of what was
-- stored, at most 1024; PM1 moves to the closing point; PM2 restores what PM0 found. (What is refused with 7 stands in Refusals.antt.)
-- By cases over the rules, one lemma each.
use Rattle.std.specs.Prelude.{◌≡◌, Bool, ◌&&◌, ◌||◌, ℕ, zero, suc, ◌+◌, ◌≤◌, leb, ltb, eqb, ℤ}
use Rattle.std.proofs.Math.Path.{refl, ap}
use Rattle.std.proofs.Common.{sym, ◌∙◌, subst, arith, ne_eqb, leb-true}
use Rattle.std.proofs.Math.Bool.{true, false, cond, not}
use mathlib.Core.List.{List, [], ◌∷◌, ◌++◌}
use Rattle.std.proofs.Math.IntN.{pos}
use Rattle.exact.specs.Whole.{◌≡?◌, ◌≤?◌, eq-≡?}
use Rattle.clip.specs.declared.Point.{Point}
use Rattle.clip.specs.declared.Rect.{Rect}
use Rattle.reader.specs.declared.Coordinates.{Coordinates}
use Rattle.reader.specs.declared.Numbers.{Numbers}
use Rattle.reader.specs.declared.Event.{Event}
use Rattle.reader.specs.declared.Event.TheVariants.{Nothing, Named, Pair, Ended, Refused}
use Rattle.mnemonics.specs.Table.{IN, PM, EA, ER, PU, PD, PA, PR, known_in_polygon}
use Rattle.turns.specs.Turn.{turn_count, find_turn}
use Rattle.plane.specs.Bounds.{most_angle}
use Rattle.hpgl.proofs.Cases.{never, pick, choose, cond-true}
use Rattle.hpgl.specs.declared.Position.{Position}
use Rattle.hpgl.specs.declared.Saved.{Saved}
use Rattle.hpgl.specs.declared.Polygon.{Polygon}
use Rattle.hpgl.specs.declared.Carriage.{Carriage}
use Rattle.hpgl.specs.declared.Core.{Core}
use Rattle.hpgl.specs.declared.Action.{Action}
use Rattle.hpgl.proofs.ArcCases.{by-arc}
use Rattle.hpgl.specs.declared.Action.TheVariants.{Keep}
use Rattle.hpgl.specs.declared.Acted.{Acted}
use Rattle.hpgl.specs.Numbers.{out_of_range, polygon_full, polygon_bytes, mode_bytes, point_bytes, pen_bytes, most_pen, least_angle}
use Rattle.hpgl.specs.Place.{rounded, location, in_range}
use Rattle.hpgl.proofs.Ends as ends
use Rattle.hpgl.proofs.Ends.{Works, Rests, other, by_end}
use Rattle.hpgl.specs.Rules.{done, refuse, no_polygon, fresh_carriage, fresh_core, letters, name_rule, rebased, in_rule, df_rule, good_corners, set_corners, ip_rule, sc_rule, set_turn, turn_to, ro_rule, set_window, iw_rule, set_pen, sp_rule, move_to, point_cost, longer, store_point, aimed, go_to, pair_rule, begun, pm0, closes, ended_with, ended, pm1_in, pm1, leave, pm2_in, pm2, pm_rule, ep_rule, rectangular, rectangle_to, ea_rule, er_rule, circle_fits, circle_with, chord_angle, ci_rule, follow, arc_about, aa_rule, ar_rule, oa_rule, op_rule, ow_rule, oh_rule, oe_rule, end_rule, act_on}
use Rattle.hpgl.proofs.PinsPosition.{after}

abbrev pub bytes_of : Core → ℕ
bytes_of c = c.carriage.polygon.bytes

abbrev pub mode_on : Core → Bool
mode_on c = c.carriage.polygon.mode

-- ---- what a polygon has stored

-- a point may be the first of a PU or PD that itself changed the pen
pub data Stored : Type 0 where
  PM0 : Stored
  PM1 : Stored
  point : Stored
  pen_point : Stored
  rectangle : Stored

-- "2 for PM0 and PM1, 9 for each point, 2 when the point is the first of a PU or PD that itself changed the pen"; EA and ER: "49 bytes by definition"
abbrev pub cost : Stored → ℕ
cost PM0 = 2
cost PM1 = 2
cost point = 9
cost pen_point = 9 + 2
cost rectangle = 49

unfoldable pub costs : List Stored → ℕ
costs [] = 0
costs (s ∷ ss) = cost s + costs ss

-- the point of a pair
abbrev pub point_of : Core → Stored
point_of c = cond c.carriage.pen.changed pen_point point

-- "first adding its first point if the last differs in location .. (to an empty one nothing is added)"
abbrev pub closing : Core → List Stored
closing c = cond (closes c) (point ∷ []) []

-- PM's number; "PM0 or PM"
abbrev pub mode_of : Numbers → ℤ
mode_of n = cond (eqb n.count 0) (pos 0) (rounded n.first)

-- "PM0 or PM empties the polygon, stores the current point"; "PM1 ends a subpolygon, first adding its first point"; "PM2 closes likewise"
unfoldable pub stored_by_pm : Core → ℤ → List Stored → List Stored
stored_by_pm c k h = cond (k ≡? pos 0) (PM0 ∷ point ∷ []) (cond (k ≡? pos 1) (h ++ (closing c ++ (PM1 ∷ []))) (h ++ closing c))

-- what is stored after an event that is carried out: "moves store points"; "EA and ER .. replace the polygon"; IN: "polygon empty"
unfoldable pub stored_by : Core → Event → List Stored → List Stored
stored_by c Nothing h = h
stored_by c (Named op) h = h
stored_by c (Pair n) h = cond (mode_on c) (h ++ (point_of c ∷ [])) h
stored_by c (Ended op n) h = cond (eqb op IN) [] (cond (eqb op PM) (stored_by_pm c (mode_of n) h) (cond (eqb op EA || eqb op ER) (rectangle ∷ []) h))
stored_by c (Refused k) h = h

-- and after any event
abbrev pub stored_after : Core → Event → List Stored → List Stored
stored_after c e h = cond (eqb (act_on c e).number 0) (stored_by c e h) h

-- ---- "PM1 ends a subpolygon .. the exact position moving to that point (to an empty one nothing is added); then the pen is up"

pub record SubpolygonEnded (p : Position) (d : Core) : Type 0 where
  pub position : d.carriage.position ≡ p
  pub up : d.carriage.pen.down ≡ false
  pub empty : d.carriage.polygon.empty ≡ true
  pub mode : mode_on d ≡ true

abbrev EndsAt : Position → Acted → Type 0
EndsAt p t = t.number ≡ 0 → SubpolygonEnded p t.core

pub pm1-ends : (c : Core) → (pm1 c).number ≡ 0 → SubpolygonEnded (cond (closes c) c.carriage.polygon.first c.carriage.position) (pm1 c).core
unfolding pm1 pm1_in ended ended_with done refuse
pm1-ends c =
    pick (EndsAt _) (mode_on c)
    (choose EndsAt (closes c)
    (pick (EndsAt _) (leb (bytes_of c + (mode_bytes + point_bytes)) polygon_bytes)
    (λ e. record { position = refl; up = refl; empty = refl; mode = refl }) (λ e. absurd (omega arith)))
    (pick (EndsAt _) (leb (bytes_of c + mode_bytes) polygon_bytes) (λ e. record { position = refl; up = refl; empty = refl; mode = refl }) (λ e. absurd (omega arith))))
    (λ e. absurd (omega arith))

-- ---- "PM2 .. leaves the mode, restores position, mode and pen of PM0"; "PM2 still ends, open"

pub record Restored (p : Position) (r b : Bool) (d : Core) : Type 0 where
  pub mode : mode_on d ≡ false
  pub position : d.carriage.position ≡ p
  pub relative : d.carriage.relative ≡ r
  pub down : d.carriage.pen.down ≡ b

pub pm2-restores : (c : Core) → mode_on c ≡ true →
    Restored c.carriage.polygon.saved.position c.carriage.polygon.saved.relative c.carriage.polygon.saved.down (pm2 c).core
unfolding pm2 pm2_in leave ended_with done refuse
pm2-restores c m =
    subst Back (sym (cond-true (mode_on c) (pm2_in c) (refuse c out_of_range) m))
    (pick Back (closes c)
    (pick Back (leb (bytes_of c + point_bytes) polygon_bytes) (record { mode = refl; position = refl; relative = refl; down = refl }) (record { mode = refl; position = refl; relative = refl; down = refl }))
    (record { mode = refl; position = refl; relative = refl; down = refl }))
  where
    Back : Acted → Type 0
    Back t = Restored c.carriage.polygon.saved.position c.carriage.polygon.saved.relative c.carriage.polygon.saved.down t.core

-- ---- what is claimed of an event

-- h was stored before it, and s is to be if it is carried out
pub record Counted (c : Core) (h s : List Stored) (t : Acted) : Type 0 where
  pub bytes : bytes_of t.core ≡ costs (cond (eqb t.number 0) s h)
  pub most : bytes_of t.core ≤ 1024
  -- what PM0 saved stays for PM2
  pub saved : mode_on c ≡ true → mode_on t.core ≡ true → t.core.carriage.polygon.saved ≡ c.carriage.polygon.saved

costs-append : (h s : List Stored) → costs (h ++ s) ≡ costs h + costs s
unfolding costs
costs-append [] s = let e : 0 + costs s ≡ costs s = omega arith in sym e
costs-append (x ∷ h) s = let k : costs (h ++ s) ≡ costs h + costs s = costs-append h s in omega arith

-- ---- the rules

module _ (c : Core) (h : List Stored) (is : bytes_of c ≡ costs h) (fits : bytes_of c ≤ 1024) where
  abbrev Counts : List Stored → Acted → Type 0
  Counts s t = Counted c h s t

  -- a choice, with what its test says
  when : (s : List Stored) (t : Bool) {x y : Acted} → (t ≡ true → Counts s x) → (t ≡ false → Counts s y) → Counts s (cond t x y)
  when s true f g = f refl
  when s false f g = g refl

  refuses : (s : List Stored) (d : Core) (k : ℕ) → d.carriage.polygon ≡ c.carriage.polygon → Counts s (refuse d (suc k))
  unfolding refuse
  refuses s d k e = record {
    bytes = rw (ne_eqb (suc k) 0 (λ e. omega arith)) (ap (λ (g : Polygon). g.bytes) e ∙ is);
    most = rw e fits;
    saved = λ x y. ap (λ (g : Polygon). g.saved) e;
  }

  carries : (s : List Stored) (d : Core) (a : Action) → bytes_of d ≡ costs s → bytes_of d ≤ 1024 →
      (mode_on c ≡ true → mode_on d ≡ true → d.carriage.polygon.saved ≡ c.carriage.polygon.saved) → Counts s (done d a)
  unfolding done
  carries s d a b m v = record { bytes = b; most = m; saved = v }

  keeps : (d : Core) (a : Action) → d.carriage.polygon ≡ c.carriage.polygon → Counts h (done d a)
  keeps d a e = carries h d a (ap (λ (g : Polygon). g.bytes) e ∙ is) (rw e fits) (λ x y. ap (λ (g : Polygon). g.saved) e)

  counts-name : (op : ℕ) → Counts h (name_rule c op)
  unfolding name_rule letters
  counts-name op = pick (Counts h) (mode_on c && not (known_in_polygon op)) (refuses h _ _ refl) (keeps _ _ same)
    where
      same : (letters c.carriage op).polygon ≡ c.carriage.polygon
      same =
          pick (λ (k : Carriage). k.polygon ≡ c.carriage.polygon) (eqb op PU) refl
          (pick (λ (k : Carriage). k.polygon ≡ c.carriage.polygon) (eqb op PD) refl
          (pick (λ (k : Carriage). k.polygon ≡ c.carriage.polygon) (eqb op PA) refl
          (pick (λ (k : Carriage). k.polygon ≡ c.carriage.polygon) (eqb op PR) refl refl)))

  -- what s costs is added if it fits, and r is done if not
  fitting : (s : List Stored) (n : ℕ) (d : Core) (a : Action) (r : Acted) → n ≡ costs s → bytes_of d ≡ bytes_of c + n →
      d.carriage.polygon.saved ≡ c.carriage.polygon.saved → Counts (h ++ s) r →
      Counts (h ++ s) (cond (leb (bytes_of c + n) polygon_bytes) (done d a) r)
  fitting s n d a r e b v k = when (h ++ s) (leb (bytes_of c + n) polygon_bytes) fits_in (λ l. k)
    where
      fits_in : leb (bytes_of c + n) polygon_bytes ≡ true → Counts (h ++ s) (done d a)
      fits_in l =
          let k : costs (h ++ s) ≡ costs h + costs s = costs-append h s in
          let m : bytes_of c + n ≤ polygon_bytes = leb-true (bytes_of c + n) polygon_bytes l in
          carries (h ++ s) d a (omega (arith, is)) (omega arith) (λ x y. v)

  point-cost : point_cost c.carriage.pen ≡ costs (point_of c ∷ [])
  unfolding point_cost costs
  point-cost = go c.carriage.pen.changed
    where
      go : (t : Bool) → cond t (point_bytes + pen_bytes) point_bytes ≡ cost (cond t pen_point point) + 0
      go true = refl
      go false = refl

  counts-store : (p : Position) → Counts (h ++ (point_of c ∷ [])) (store_point c p)
  unfolding store_point longer
  counts-store p = fitting (point_of c ∷ []) (point_cost c.carriage.pen) _ _ _ point-cost refl refl (refuses _ _ _ refl)

  counts-pair : (n : Coordinates) → Counts (stored_by c (Pair n) h) (pair_rule c n)
  unfolding pair_rule go_to move_to stored_by
  counts-pair n =
      pick (Counts (cond (mode_on c) (h ++ (point_of c ∷ [])) h)) (in_range (location c.settings (aimed c n)))
      (choose Counts (mode_on c) (counts-store (aimed c n)) (keeps _ _ refl)) (refuses _ _ _ refl)

  counts-in : Counts [] (in_rule c)
  unfolding in_rule fresh_carriage no_polygon costs
  counts-in = carries [] _ _ refl (omega arith) (λ a b. never refl b)

  counts-corners : (p q : Point) → Counts h (set_corners c p q)
  unfolding set_corners rebased
  counts-corners p q = pick (Counts h) (good_corners p q) (keeps _ _ refl) (refuses h _ _ refl)

  counts-ip : (n : Numbers) → Counts h (ip_rule c n)
  unfolding ip_rule
  counts-ip n = pick (Counts h) (eqb n.count 0) (counts-corners _ _) (pick (Counts h) (eqb n.count 2) (counts-corners _ _) (counts-corners _ _))

  counts-sc : (n : Numbers) → Counts h (sc_rule c n)
  unfolding sc_rule rebased
  counts-sc n =
      pick (Counts h) (eqb n.count 0) (keeps _ _ refl)
      (pick (Counts h) (n.first ≡? n.second) (refuses h _ _ refl) (pick (Counts h) (n.third ≡? n.fourth) (refuses h _ _ refl) (keeps _ _ refl)))

  counts-turn : (z : ℤ) → Counts h (turn_to c z)
  unfolding turn_to set_turn rebased
  counts-turn z = pick (Counts h) (ltb (find_turn z) turn_count) (keeps _ _ refl) (refuses h _ _ refl)

  counts-ro : (n : Numbers) → Counts h (ro_rule c n)
  unfolding ro_rule
  counts-ro n = pick (Counts h) (eqb n.count 0) (counts-turn _) (counts-turn _)

  counts-iw : (n : Numbers) → Counts h (iw_rule c n)
  unfolding iw_rule set_window
  counts-iw n = pick (Counts h) (eqb n.count 0) (keeps _ _ refl) (pick (Counts h) (in_range _ && in_range _) (keeps _ _ refl) (refuses h _ _ refl))

  counts-sp : (n : Numbers) → Counts h (sp_rule c n)
  unfolding sp_rule set_pen
  counts-sp n =
      pick (Counts h) (eqb n.count 0) (keeps _ _ refl)
      (pick (Counts h) ((pos 0 ≤? rounded n.first) && (rounded n.first ≤? pos most_pen)) (keeps _ _ refl) (refuses h _ _ refl))

  counts-pm0 : Counts (PM0 ∷ point ∷ []) (pm0 c)
  unfolding pm0 begun costs
  counts-pm0 = when _ (mode_on c) (λ e. refuses _ _ _ refl) (λ e. carries _ _ _ refl (omega arith) (λ a b. never e a))

  counts-pm1 : Counts (h ++ (closing c ++ (PM1 ∷ []))) (pm1 c)
  unfolding pm1 pm1_in ended ended_with costs
  counts-pm1 =
      pick (Counts _) (mode_on c)
      (choose (λ (s : List Stored) (t : Acted). Counts (h ++ (s ++ (PM1 ∷ []))) t) (closes c)
      (fitting (point ∷ PM1 ∷ []) (mode_bytes + point_bytes) _ _ _ refl refl refl (refuses _ _ _ refl)) (fitting (PM1 ∷ []) mode_bytes _ _ _ refl refl refl (refuses _ _ _ refl)))
      (refuses _ _ _ refl)

  -- PM2 closed already, and PM2 that cannot close
  counts-left : Counts (h ++ []) (done (leave c 0 0) Keep)
  unfolding leave ended_with costs
  counts-left = let k : costs (h ++ []) ≡ costs h + 0 = costs-append h [] in carries _ _ _ (omega (arith, is)) (omega (arith, fits)) (λ a b. never refl b)

  counts-open : (s : List Stored) → Counts s (refuse (leave c 0 0) polygon_full)
  unfolding refuse leave ended_with
  counts-open s = record { bytes = omega (arith, is); most = omega (arith, fits); saved = λ a b. never refl b }

  counts-pm2 : Counts (h ++ closing c) (pm2 c)
  unfolding pm2 pm2_in leave ended_with costs
  counts-pm2 =
      pick (Counts _) (mode_on c)
      (choose (λ (s : List Stored) (t : Acted). Counts (h ++ s) t) (closes c) (fitting (point ∷ []) point_bytes _ _ _ refl refl refl (counts-open _)) counts-left) (refuses _ _ _ refl)

  counts-pm : (n : Numbers) → Counts (stored_by_pm c (mode_of n) h) (pm_rule c n)
  unfolding pm_rule stored_by_pm
  counts-pm n = go (eqb n.count 0)
    where
      zero_is : (pos 0 ≡? pos 0) ≡ true
      zero_is = eq-≡? refl

      numbered : Counts (stored_by_pm c (rounded n.first) h) (cond (rounded n.first ≡? pos 0) (pm0 c) (cond (rounded n.first ≡? pos 1) (pm1 c) (cond (rounded n.first ≡? pos 2) (pm2 c) (refuse c out_of_range))))
      numbered =
          choose Counts (rounded n.first ≡? pos 0) counts-pm0
          (choose Counts (rounded n.first ≡? pos 1) counts-pm1 (pick (Counts _) (rounded n.first ≡? pos 2) counts-pm2 (refuses _ _ _ refl)))

      go : (t : Bool) → Counts (stored_by_pm c (cond t (pos 0) (rounded n.first)) h)
          (cond t (pm0 c) (cond (rounded n.first ≡? pos 0) (pm0 c) (cond (rounded n.first ≡? pos 1) (pm1 c) (cond (rounded n.first ≡? pos 2) (pm2 c) (refuse c out_of_range)))))
      go true = rw zero_is counts-pm0
      go false = numbered

  counts-rectangle : (p : Position) → Counts (rectangle ∷ []) (rectangle_to c p)
  unfolding rectangle_to rectangular costs
  counts-rectangle p = pick (Counts _) (in_range (location c.settings p)) (carries _ _ _ refl (omega arith) (λ a b. never refl b)) (refuses _ _ _ refl)

  counts-ci : (n : Numbers) → Counts h (ci_rule c n)
  unfolding ci_rule circle_with
  counts-ci n =
      pick (Counts h) ((pos least_angle ≤? chord_angle n) && (chord_angle n ≤? pos most_angle)) (pick (Counts h) (circle_fits c n.first) (keeps c _ refl) (refuses h _ _ refl)) (refuses h _ _ refl)

  counts-arc : (q : Position) (n : Numbers) → Counts h (arc_about c q n)
  unfolding follow
  counts-arc q n = by-arc c q n (Counts h) (λ p. keeps _ _ refl) (refuses h _ _ refl) (refuses h _ _ refl)

  counts_each : (n : Numbers) {op : ℕ} → Works op → Counts (stored_by c (Ended op n) h) (end_rule c op n)
  unfolding end_rule stored_by df_rule rebased ep_rule ea_rule er_rule aa_rule ar_rule oa_rule op_rule ow_rule oh_rule oe_rule
  counts_each n ends.IN = counts-in
  counts_each n ends.DF = keeps _ _ refl
  counts_each n ends.EP = keeps _ _ refl
  counts_each n ends.IP = counts-ip n
  counts_each n ends.SC = counts-sc n
  counts_each n ends.IW = counts-iw n
  counts_each n ends.RO = counts-ro n
  counts_each n ends.SP = counts-sp n
  counts_each n ends.PM = counts-pm n
  counts_each n ends.CI = counts-ci n
  counts_each n ends.EA = counts-rectangle _
  counts_each n ends.ER = counts-rectangle _
  counts_each n ends.AA = counts-arc _ n
  counts_each n ends.AR = counts-arc _ n
  counts_each n ends.OA = keeps _ _ refl
  counts_each n ends.OP = keeps _ _ refl
  counts_each n ends.OW = keeps _ _ refl
  counts_each n ends.OH = keeps _ _ refl
  counts_each n ends.OE = keeps _ _ refl

  counts-rest : (n : Numbers) (op : ℕ) → Rests op → Counts (stored_by c (Ended op n) h) (done c Keep)
  unfolding stored_by
  counts-rest n op r = rw (other r IN refl, other r PM refl, other r EA refl, other r ER refl) (keeps _ _ refl)

  counts_end : (op : ℕ) (n : Numbers) → Counts (stored_by c (Ended op n) h) (end_rule c op n)
  counts_end op n = by_end c n (λ (op : ℕ) (t : Acted). Counts (stored_by c (Ended op n) h) t) (λ o i. counts_each n i) (counts-rest n) op

-- The bytes of the polygon are the cost of what is stored, before and after any event
pub polygon-bytes : (c : Core) (e : Event) (h : List Stored) → bytes_of c ≡ costs h → bytes_of c ≤ 1024 → Counted c h (stored_by c e h) (act_on c e)
unfolding act_on stored_by refuse done
polygon-bytes c Nothing h is fits = keeps c h is fits c _ refl
polygon-bytes c (Named op) h is fits = counts-name c h is fits op
polygon-bytes c (Pair n) h is fits = counts-pair c h is fits n
polygon-bytes c (Ended op n) h is fits = counts_end c h is fits op n
polygon-bytes c (Refused zero) h is fits = keeps c h is fits c Keep refl
polygon-bytes c (Refused (suc k)) h is fits = refuses c h is fits h c k refl

-- ---- from fresh on: the bytes are the cost of what was stored, and at most 1024

unfoldable pub history : Core → List Event → List Stored → List Stored
history c [] h = h
history c (e ∷ es) h = history (act_on c e).core es (stored_after c e h)

pub bytes-told : (c : Core) (es : List Event) (h : List Stored) → bytes_of c ≡ costs h → bytes_of c ≤ 1024 →
    (bytes_of (after c es) ≡ costs (history c es h)) × (bytes_of (after c es) ≤ 1024)
unfolding after history
bytes-told c [] h is fits = (is, fits)
bytes-told c (e ∷ es) h is fits = let k = polygon-bytes c e h is fits in bytes-told (act_on c e).core es (stored_after c e h) k.bytes k.most

pub bytes-from-fresh : (r : Rect) (es : List Event) →
    (bytes_of (after (fresh_core r) es) ≡ costs (history (fresh_core r) es [])) × (bytes_of (after (fresh_core r) es) ≤ 1024)
unfolding fresh_core fresh_carriage no_polygon costs
bytes-from-fresh r es = bytes-told (fresh_core r) es [] refl (omega arith)

-- ---- between PM0 and PM2

-- polygon mode is on, from c to the last of the events
pub data InMode : Core → List Event → Type 0 where
  none : {c : Core} → mode_on c ≡ true → InMode c []
  more : {c : Core} {e : Event} {es : List Event} → mode_on c ≡ true → InMode (act_on c e).core es → InMode c (e ∷ es)

starts-on : {c : Core} {es : List Event} → InMode c es → mode_on c ≡ true
starts-on (none m) = m
starts-on (more m k) = m

stays_on : (c : Core) (es : List Event) → InMode c es → mode_on (after c es) ≡ true
unfolding after
stays_on c [] (none m) = m
stays_on c (e ∷ es) (more m k) = stays_on (act_on c e).core es k

saved-stays : (c : Core) (es : List Event) (h : List Stored) → bytes_of c ≡ costs h → bytes_of c ≤ 1024 → InMode c es →
    (after c es).carriage.polygon.saved ≡ c.carriage.polygon.saved
unfolding after
saved-stays c [] h is fits (none m) = refl
saved-stays c (e ∷ es) h is fits (more m k) =
    let a = polygon-bytes c e h is fits in
    saved-stays (act_on c e).core es (stored_after c e h) a.bytes a.most k ∙ a.saved m (starts-on k)

record Begins (c d : Core) : Type 0 where
  bytes : bytes_of d ≡ costs (PM0 ∷ point ∷ [])
  most : bytes_of d ≤ 1024
  saved : d.carriage.polygon.saved ≡ record { position = c.carriage.position; relative = c.carriage.relative; down = c.carriage.pen.down }

pm0-begins : (c : Core) → mode_on c ≡ false → Begins c (pm0 c).core
unfolding pm0 begun done costs
pm0-begins c m = rw m (record { bytes = refl; most = omega arith; saved = refl })

-- PM0 at c, any events in the mode, PM2, carried out or with 7
pub pm2-ends : (c : Core) (es : List Event) → mode_on c ≡ false → InMode (pm0 c).core es →
    Restored c.carriage.position c.carriage.relative c.carriage.pen.down (pm2 (after (pm0 c).core es)).core
pm2-ends c es off on =
    let b = pm0-begins c off in
    subst Back (saved-stays d es (PM0 ∷ point ∷ []) b.bytes b.most on ∙ b.saved) (pm2-restores (after d es) (stays_on d es on))
  where
    d : Core
    d = (pm0 c).core

    Back : Saved → Type 0
    Back v = Restored v.position v.relative v.down (pm2 (after d es)).core
