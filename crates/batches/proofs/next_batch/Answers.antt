-- The proof of `next_batch`: feed with r + q records is feed with r, those of a batch, and then with the q that are left (`feed-room`).
use mathlib.Core.Path.{◌≡◌, refl, sym, ap, ◌∙◌, subst}
use mathlib.Core.Bool.{Bool, true, false, cond, ◌&&◌, false≢true}
use mathlib.Core.List.{List, ◌++◌, append-nil}
use Prim.Native.Nat.{ℕ, zero, suc, ◌+◌, ◌*◌, ◌-◌, ◌/◌, ◌≤◌, ◌<◌}
use native.Mathlib.Omega.{arith}
use borrow.Author.Tests.{eqb-true, ltb-true, ltb-false}
use lib.Dec.{eqb, ltb}
use lib.IntN.{ℤ}
use lib.ListN.{length, take, drop}
use lib.Seq.{drop-drop, length-take-le, length_front}
use Rattle.hpgl.specs.declared.Stroke.{Stroke}
use Rattle.feeding.specs.DrawOff.{list_full}
use Rattle.feeding.specs.Feed.{Feed, feed_from, laid_numbers}
use Rattle.feeding.proofs.PartsOfFeed.{store_all, Roomier, feed-room}
use Rattle.feeding.proofs.StrokePens.{feed-pens}
use Rattle.feeding.proofs.FeedLaws.{feed-place, feed-stored}
use Rattle.gathering.specs.declared.Stopped.{Stopped}
use Rattle.machine.specs.declared.Gathered.{Gathered}
use Rattle.machine.specs.Gather.{gathered_by, gathered_of}
use Rattle.batches.specs.declared.Fed.{Fed}
use Rattle.batches.specs.declared.Batch.{Batch}
use Rattle.batches.specs.Batches.{fed_by, goes_on, ended, rest, Batched}
use Rattle.batches.specs.Records.{strokes_of, PenAt, PensBefore, laid-long, records-back, pens-back}
use Rattle.batches.proofs.next_batch.Goals as goal
use Rattle.batches.proofs.next_batch.Lts
use Rattle.batches.proofs.next_batch.Tie
use Rattle.batches.proofs.next_batch.Reads

abbrev After-gather-g : Type 0
After-gather-g = Lts.After-gather Tie.the-claims Reads.Pre Reads.Post Tie.handed_clauses

abbrev Start : Type 0
Start = Lts.Start Tie.the-claims Reads.Pre Reads.Post Tie.handed_clauses

-- ---- a batch of `most` records

-- a batch that is full while the list is not has a stroke
positive : (k most room stored : ℕ) → k ≡ most → (most < 64 → most ≡ room - stored) → stored + k < room → 0 < k
positive (suc k) most room stored e cap h = omega arith
positive zero most room stored e cap h = absurd (omega (arith, e, h, cap (omega (arith, e))))

module _ (f : Fed) (bytes : List ℕ) (room most : ℕ) where
  -- feed with these records
  abbrev part : Feed
  part = feed_from f.machine.state (drop f.taken bytes) f.taken most

  -- where feed has got to with what was gathered after f
  abbrev reached : Stopped → Stopped
  reached g = record { state = g.state; at = g.at; stored = f.stored + g.stored; number = g.number }

  -- whether it goes on there
  abbrev goes : Stopped → Bool
  goes g = eqb g.number list_full && ltb (reached g).stored room

  -- the batch follows f, said of the state
  abbrev Follows : Stopped → Bool → List Stroke → Type 0
  Follows g more list =
      (goes_on bytes room (fed_by f) ≡ store_all (take g.stored list) (rest more bytes room (reached g)))
      × ((g.stored ≤ 64) × (((reached g).stored ≤ room) × (more ≡ true → 0 < g.stored)))

  abbrev batchOf : Gathered → Bool → List Stroke → Batch
  batchOf g more list =
      record { count = g.stored; more = more; list = list; fed = record { machine = g.machine; taken = g.at; stored = f.stored + g.stored; number = g.number } }

  batched : (g : Gathered) (more : Bool) (list : List Stroke) → Follows (gathered_by g) more list → Batched bytes room f (batchOf g more list)
  batched g more list h = record { next = h.0; counted = refl; held = h.1.0; within = h.1.1.0; some = h.1.1.1 }

  module _ (enough : f.stored ≤ room) (within : most ≤ room - f.stored) where
    abbrev left : ℕ
    left = room - f.stored - most

    -- what feed does after it
    abbrev then : Feed
    then = feed_from part.state (drop (part.taken - f.taken) (drop f.taken bytes)) part.taken left

    wider : Roomier (drop f.taken bytes) f.taken left most part (feed_from f.machine.state (drop f.taken bytes) f.taken (most + left))
    wider = feed-room f.machine.state (drop f.taken bytes) f.taken most left

    whole : goes_on bytes room (fed_by f) ≡ cond (eqb part.number list_full) (store_all part.strokes then) part
    whole = ap (feed_from f.machine.state (drop f.taken bytes) f.taken) (omega (arith, within)) ∙ wider.on

    -- where nothing follows
    last : part ≡ store_all part.strokes (ended (reached (gathered_of part)))
    last = ap (λ (ss : List Stroke). record { state = part.state; taken = part.taken; strokes = ss; number = part.number }) (sym (append-nil part.strokes))

    bytes_left : drop (part.taken - f.taken) (drop f.taken bytes) ≡ drop part.taken bytes
    bytes_left =
        let place : f.taken + (part.taken - f.taken) ≡ part.taken = omega (arith, (feed-place f.machine.state (drop f.taken bytes) f.taken most).0) in
        drop-drop (part.taken - f.taken) f.taken bytes ∙ ap (λ (k : ℕ). drop k bytes) place

    next-is : (z y : Bool) → eqb part.number list_full ≡ z → ltb (f.stored + length part.strokes) room ≡ y →
        goes_on bytes room (fed_by f) ≡ store_all part.strokes (rest (z && y) bytes room (reached (gathered_of part)))
    next-is false y e h = whole ∙ ap (λ (z : Bool). cond z (store_all part.strokes then) part) e ∙ last
    next-is true true e h =
        whole ∙ ap (λ (z : Bool). cond z (store_all part.strokes then) part) e
        ∙ ap (λ (l : List ℕ). store_all part.strokes (feed_from part.state l part.taken left)) bytes_left
        ∙ ap (λ (k : ℕ). store_all part.strokes (feed_from part.state (drop part.taken bytes) part.taken k))
        (omega (arith, wider.filled (eqb-true part.number list_full e), within))
    next-is true false e h =
        ap (feed_from f.machine.state (drop f.taken bytes) f.taken)
        (omega (arith, within, enough, wider.filled (eqb-true part.number list_full e), ltb-false (f.stored + length part.strokes) room h))
        ∙ last

    module _ (cap : most < 64 → most ≡ room - f.stored) where
      some_is : (z y : Bool) → eqb part.number list_full ≡ z → ltb (f.stored + length part.strokes) room ≡ y → (z && y) ≡ true → 0 < length part.strokes
      some_is true true e h k =
          positive (length part.strokes) most room f.stored (wider.filled (eqb-true part.number list_full e)) cap
          (ltb-true (f.stored + length part.strokes) room h)
      some_is true false e h k = absurd (false≢true k)
      some_is false y e h k = absurd (false≢true k)

      follows : (list : List Stroke) → take (length part.strokes) list ≡ part.strokes → most ≤ 64 → Follows (gathered_of part) (goes (gathered_of part)) list
      follows list e small =
          let stored = feed-stored f.machine.state (drop f.taken bytes) f.taken most in (
            next-is (eqb part.number list_full) (ltb (f.stored + length part.strokes) room) refl refl
                ∙ ap (λ (ss : List Stroke). store_all ss (rest (goes (gathered_of part)) bytes room (reached (gathered_of part)))) (sym e),
            (
              omega (arith, stored, small),
              (omega (arith, stored, within, enough), some_is (eqb part.number list_full) (ltb (f.stored + length part.strokes) room) refl refl),
            ),
          )

-- ---- the code

-- the part of the numbers that is lent
part-long : (most : ℕ) (zeros : List ℤ) → most ≤ 64 → length zeros ≡ 320 → length (take (most * 5) zeros) ≡ most * 5
part-long most zeros h e = length-take-le (most * 5) zeros (omega (arith, h, e))

-- its records
fifth : (most k : ℕ) → k ≡ most * 5 → k / 5 ≡ most
fifth most k e = omega (arith, e)

-- what is known once the numbers are gathered
module _ (g : After-gather-g) where
  abbrev s : Start
  s = g.before.before.before.before.before.before.before

  abbrev f : Fed
  f = s.args.f

  abbrev bytes : List ℕ
  bytes = s.args.bytes.now

  abbrev most : ℕ
  most = g.batch_room-most.result

  -- at most 64, at most those that are free, and if fewer than 64 then all of those
  abbrev sized : (most ≤ 64) × ((most ≤ s.args.room - f.stored) × (most < 64 → most ≡ s.args.room - f.stored))
  sized = g.batch_room-most.ensures

  abbrev zeros : List ℤ
  zeros = g.zeros-numbers.result

  -- feed, with the batch's records
  abbrev did : Feed
  did = part f bytes s.args.room most

  lent-long : length (take (most * 5) zeros) ≡ most * 5
  lent-long = part-long most zeros sized.0 g.zeros-numbers.ensures

  gathered : gathered_by g.gather-g.result ≡ gathered_of did
  gathered = g.gather-g.ensures.value ∙ ap (λ (k : ℕ). gathered_of (feed_from f.machine.state (drop f.taken bytes) f.taken k)) (fifth most _ lent-long)

  counted : g.gather-g.result.stored ≡ length did.strokes
  counted = ap (λ (r : Stopped). r.stored) gathered

  few : length did.strokes ≤ most
  few = feed-stored f.machine.state (drop f.taken bytes) f.taken most

  -- the numbers: the strokes', in the part that was lent, and the others
  abbrev laid : List ℤ
  laid = laid_numbers did.strokes (take (most * 5) zeros)

  abbrev numbers : List ℤ
  numbers = g.gather-g.new.numbers ++ drop (most * 5) zeros

  numbers-are : numbers ≡ laid ++ drop (most * 5) zeros
  numbers-are =
      ap (λ (l : List ℤ). l ++ drop (most * 5) zeros)
      (g.gather-g.ensures.numbers_after ∙ ap (λ (k : ℕ). laid_numbers (feed_from f.machine.state (drop f.taken bytes) f.taken k).strokes (take (most * 5) zeros)) (fifth most _ lent-long))

  numbers-long : length numbers ≡ 320
  numbers-long =
      ap length numbers-are ∙ length_front zeros laid (most * 5) (laid-long did.strokes (take (most * 5) zeros) (omega (arith, lent-long, few)))
      ∙ g.zeros-numbers.ensures

  penned : PensBefore numbers g.gather-g.result.stored
  penned i h =
      subst (λ (l : List ℤ). PenAt l i) (sym numbers-are)
      (pens-back did.strokes (take (most * 5) zeros) (drop (most * 5) zeros)
      (feed-pens f.machine.state (drop f.taken bytes) f.taken most f.machine.usable.valid) i (omega (arith, h, counted)))

  -- the records are the strokes
  listed : (list : List Stroke) → take g.gather-g.result.stored list ≡ strokes_of numbers g.gather-g.result.stored → take (length did.strokes) list ≡ did.strokes
  listed list e =
      ap (λ (k : ℕ). take k list) (sym counted) ∙ e ∙ ap (λ (l : List ℤ). strokes_of l g.gather-g.result.stored) numbers-are
      ∙ ap (strokes_of (laid ++ drop (most * 5) zeros)) counted ∙ records-back did.strokes (take (most * 5) zeros) (drop (most * 5) zeros)

  -- the batch that is answered
  answer : (more : Bool) (list : List Stroke) → more ≡ goes f bytes s.args.room most (gathered_by g.gather-g.result) →
      take g.gather-g.result.stored list ≡ strokes_of numbers g.gather-g.result.stored → Batched bytes s.args.room f (batchOf f bytes s.args.room most g.gather-g.result more list)
  answer more list e h =
      let room = s.args.room in
      let is = follows f bytes room most s.requires sized.1.0 sized.1.1 list (listed list h) sized.0 in
      let at-g = subst (λ (r : Stopped). Follows f bytes room most r (goes f bytes room most r) list) (sym gathered) is in
      batched f bytes room most g.gather-g.result more list (subst (λ (z : Bool). Follows f bytes room most (gathered_by g.gather-g.result) z list) (sym e) at-g)

pub records-list-requires : goal.records-list-requires
records-list-requires c =
    let g = c.before.before.before in
    (omega (arith, counted g, few g, (sized g).0), (omega (arith, counted g, few g, (sized g).0, numbers-long g), penned g))

pub overflow_add-stored : goal.overflow_add-stored
overflow_add-stored c =
    let g = c.before.before.before.before.before.before in
    omega (arith, counted g, few g, (sized g).1.0, (s g).requires, (s g).ranges.room)

pub returns : goal.returns
returns c =
    let g = c.before.before.before.before.before.before.before.before in
    answer g c.goes_on-more.result c.records-list.result c.goes_on-more.ensures c.records-list.ensures
