-- A call goes on just if its list is a machine's; each list that a call leaves is one, so nobody is kept out.
use Rattle.std.specs.Prelude.{◌≡◌, Bool, true, false, cond, ◌&&◌, List, [], ◌∷◌, ◌++◌, ℕ, ◌-◌, ◌≤◌, eqb, ltb, ℤ, length, take, drop}
use Rattle.std.proofs.Math.Path.{refl, ap}
use Rattle.std.proofs.Common.{sym, ◌∙◌, append-nil, arith, length-drop, drop_of_length-le}
use borrow.Author.Tests.{eqb-true, le-ltb, eq-eqb, ltb-false}
use Rattle.clip.specs.declared.Rect.{Rect}
use Rattle.rows.specs.Rows.{row_at}
use Rattle.seal.specs.Seal.{sealed_of, header_sound, sum_stands}
use Rattle.seal.proofs.SealLaws.{seal-header, seal-sum, seal-back}
use Rattle.seal.specs.Light.{Light}
use Rattle.hpgl.specs.declared.State.{State}
use Rattle.hpgl.specs.Machine.{fresh_state, take_state, draw_state, fetch_state}
use Rattle.feeding.specs.Feed.{feed_of}
use Rattle.feeding.proofs.FeedLaws.{feed-usable}
use Rattle.feeding.specs.Plot.{plot_from}
use Rattle.feeding.proofs.PlotLaws.{plot-usable}
use Rattle.hpgl.specs.Made.{Made}
use Rattle.hpgl.specs.Valid.{Usable}
use Rattle.hpgl.proofs.ValidFacts.{and_both}
use Rattle.hpgl.proofs.ValidKept.{usable-fresh, usable-take, usable-draw, usable-fetch, made-usable}
use Rattle.saved.specs.Saved.{state_numbers, saved_of, loaded_of}
use Rattle.saved.proofs.SavedLaws.{saved-back, saved-length}
use Rattle.wellformed.specs.Sound.{sound_of}
use Rattle.wellformed.proofs.SoundLaws.{Passed, sound-passed, usable-sound}
use Rattle.wellformed.proofs.LightLaws.{sound-light}
use Rattle.machine.specs.Loadable.{Loadable}
use Rattle.readiness.specs.Ready.{no_machine, too_short, list_numbers, list_of, machine_in, machine_stands, ready_of}

-- ---- a list that passes

pub record Goes (zs : List ℤ) (needed lent : ℕ) : Type 0 where
  pub room : needed ≤ lent
  pub long : length zs ≡ list_numbers
  pub stands : machine_stands zs ≡ true

pub ready-goes : (zs : List ℤ) (needed lent : ℕ) → ready_of zs needed lent ≡ 0 → Goes zs needed lent
unfolding ready_of
ready-goes zs needed lent = go (ltb lent needed) refl (eqb (length zs) list_numbers) refl (machine_stands zs) refl
  where
    go : (s : Bool) → ltb lent needed ≡ s → (t : Bool) → eqb (length zs) list_numbers ≡ t → (u : Bool) → machine_stands zs ≡ u → cond s too_short (cond t (cond u 0 no_machine) too_short) ≡ 0 → Goes zs needed lent
    go true e t f u g h = absurd (omega (arith, h))
    go false e true f true g h = record { room = ltb-false lent needed e; long = eqb-true (length zs) list_numbers f; stands = g }
    go false e true f false g h = absurd (omega (arith, h))
    go false e false f u g h = absurd (omega (arith, h))

module _ {zs : List ℤ} {needed lent : ℕ} (g : Goes zs needed lent) where
  rest-long : length (drop 5 zs) ≡ state_numbers
  rest-long = omega (arith, g.long, length-drop 5 zs)

  tests : (header_sound (row_at zs 0) ≡ true) × (sound_of (drop 5 zs) ≡ true) × (sum_stands zs ≡ true)
  unfolding machine_stands
  tests =
      let t = and_both (header_sound (row_at zs 0)) (sound_of (drop 5 zs) && sum_stands zs) g.stands in
      let u = and_both (sound_of (drop 5 zs)) (sum_stands zs) t.1 in
      (t.0, u.0, u.1)

  passed : Passed (drop 5 zs)
  passed = sound-passed (drop 5 zs) rest-long tests.1

  pub goes-loadable : Loadable (drop 5 zs)
  goes-loadable = record { long = rest-long; usable = passed.usable }

  -- the numbers after the header are what save writes of their machine
  pub goes-saved : saved_of (loaded_of (drop 5 zs)) ≡ drop 5 zs
  goes-saved = passed.same

  -- what it holds may be used, and it is that machine's list
  pub goes-usable : Usable (machine_in zs)
  unfolding machine_in
  goes-usable = passed.usable

  pub goes-list : zs ≡ list_of (machine_in zs)
  unfolding list_of machine_in
  goes-list = seal-back zs (omega (arith, g.long)) tests.0 tests.2 ∙ ap sealed_of (sym goes-saved)

-- ---- a list whose numbers after the header were written anew

pub part-rest : (xs ys : List ℤ) → 5 ≤ length xs → drop 5 (take 5 xs ++ (ys ++ drop (length xs - 5) (drop 5 xs))) ≡ ys
part-rest [] ys h = absurd (omega (arith, h))
part-rest (a ∷ []) ys h = absurd (omega (arith, h))
part-rest (a ∷ b ∷ []) ys h = absurd (omega (arith, h))
part-rest (a ∷ b ∷ c ∷ []) ys h = absurd (omega (arith, h))
part-rest (a ∷ b ∷ c ∷ d ∷ []) ys h = absurd (omega (arith, h))
part-rest (a ∷ b ∷ c ∷ d ∷ e ∷ xs) ys h =
    ap (λ (zs : List ℤ). ys ++ zs) (drop_of_length-le xs {i = length (a ∷ b ∷ c ∷ d ∷ e ∷ xs) - 5} (omega arith)) ∙ append-nil ys

-- ---- the list of a machine that may be used passes

sealed-rest : (zs : List ℤ) → drop 5 (sealed_of zs) ≡ zs
unfolding sealed_of
sealed-rest zs = refl

module _ {m : State} (u : Usable m) where
  saved-long : length (saved_of m) ≡ state_numbers
  saved-long = saved-length m u.valid.length

  pub usable-light : Light (saved_of m)
  usable-light = sound-light (saved_of m) saved-long (usable-sound u)

  list-long : length (list_of m) ≡ list_numbers
  unfolding list_of sealed_of
  list-long = omega (arith, saved-long)

  list-stands : machine_stands (list_of m) ≡ true
  unfolding machine_stands list_of
  list-stands = rw (seal-header (saved_of m), ap sound_of (sealed-rest (saved_of m)) ∙ usable-sound u, seal-sum (saved_of m)) refl

  pub usable-ready : (needed lent : ℕ) → needed ≤ lent → ready_of (list_of m) needed lent ≡ 0
  unfolding ready_of
  usable-ready needed lent h = rw (le-ltb lent needed h, eq-eqb (length (list_of m)) list_numbers list-long, list-stands) refl

  -- and is read back
  pub list_back : machine_in (list_of m) ≡ m
  unfolding machine_in list_of
  list_back = ap loaded_of (sealed-rest (saved_of m)) ∙ saved-back m u.valid

-- ---- so nobody is kept out

pub made-ready : {m : State} → Made m → (needed lent : ℕ) → needed ≤ lent → ready_of (list_of m) needed lent ≡ 0
made-ready h = usable-ready (made-usable h)

module _ (zs : List ℤ) (needed lent : ℕ) (goes : ready_of zs needed lent ≡ 0) where
  used : Usable (machine_in zs)
  used = goes-usable (ready-goes zs needed lent goes)

  pub take-ready : (b n l : ℕ) → n ≤ l → ready_of (list_of (take_state (machine_in zs) b)) n l ≡ 0
  take-ready b = usable-ready (usable-take b used)

  pub draw-ready : (n l : ℕ) → n ≤ l → ready_of (list_of (draw_state (machine_in zs))) n l ≡ 0
  draw-ready = usable-ready (usable-draw used)

  pub fetch-ready : (room n l : ℕ) → n ≤ l → ready_of (list_of (fetch_state (machine_in zs) room)) n l ≡ 0
  fetch-ready room = usable-ready (usable-fetch room used)

  pub feed-ready : (bytes : List ℕ) (room n l : ℕ) → n ≤ l → ready_of (list_of (feed_of (machine_in zs) bytes room).state) n l ≡ 0
  feed-ready bytes room = usable-ready (feed-usable (machine_in zs) bytes 0 room used)

  pub plot-ready : (bytes : List ℕ) (room n l : ℕ) → n ≤ l → ready_of (list_of (plot_from (machine_in zs) bytes 0 room).state) n l ≡ 0
  plot-ready bytes room = usable-ready (plot-usable (machine_in zs) bytes 0 room used)

pub fresh-ready : (r : Rect) (n l : ℕ) → n ≤ l → ready_of (list_of (fresh_state r)) n l ≡ 0
fresh-ready r = usable-ready (usable-fresh r)
