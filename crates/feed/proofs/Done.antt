-- How far feed has got: the loop's invariant, without memory. The strokes up to the batch b are stored in the list, which is now ys.
--     front       what is stored and what comes after it are all that feed is to do
--     back        the records that are not stored to are as they were
--     far-batch   a batch that is stored keeps it (the check finds by itself that it holds at the start, and at the end is what feed ensures)
--     left        counts down: a batch stores a stroke or is the last
use Rattle.std.proofs.Common.{◌≡◌, sym, ap, ◌∙◌, Bool, true, false, List, ◌++◌, append_assoc, ℕ, ◌+◌, ◌-◌, ◌≤◌, arith, length, take, drop, length-append, length-take-le, length-drop}
use Rattle.std.proofs.Math.Seq.{drop-drop, take-append_seam, drop-append_seam}
use Rattle.hpgl.specs.declared.Stroke.{Stroke}
use Rattle.feeding.specs.Feed.{Feed, feed_of}
use Rattle.feeding.proofs.PartsOfFeed.{store_all}
use Rattle.machine.specs.declared.Machine.{Machine}
use Rattle.batches.specs.declared.Batch.{Batch}
use Rattle.batches.specs.Batches.{fed_by, rest, Batched}

abbrev one-if : Bool → ℕ
one-if true = 1
one-if false = 0

abbrev pub left : ℕ → Batch → ℕ
left n b = one-if b.more + (n - b.fed.stored)

module _ (m : Machine) (bytes : List ℕ) (xs : List Stroke) where
  abbrev whole : Feed
  whole = feed_of m.state bytes (length xs)

  -- what comes after the batch
  abbrev after : Batch → Feed
  after b = rest b.more bytes (length xs) (fed_by b.fed)

  pub record Far (b : Batch) (ys : List Stroke) : Type 0 where
    pub long : length ys ≡ length xs
    pub room : b.fed.stored ≤ length xs
    pub front : whole ≡ store_all (take b.fed.stored ys) (after b)
    pub back : drop b.fed.stored ys ≡ drop b.fed.stored xs

  module _ (b : Batch) (ys : List Stroke) (far : Far b ys) where
    -- a batch follows, and its strokes, `new`, are stored after those before it
    module _ (more : b.more ≡ true) (c : Batch) (h : Batched bytes (length xs) b.fed c) (new : List Stroke)
        (copied : new ≡ take c.count c.list) (sized : length new ≡ length (take (c.fed.stored - (c.fed.stored - c.count)) (drop (c.fed.stored - c.count) ys))) where
      abbrev n : ℕ
      n = c.fed.stored

      abbrev front-part : List Stroke
      front-part = take b.fed.stored ys ++ new

      from-is : n - c.count ≡ b.fed.stored
      from-is = omega (arith, h.counted)

      new-long : length new ≡ c.count
      new-long =
          sized
          ∙ length-take-le (n - (n - c.count)) (drop (n - c.count) ys) (omega (arith, length-drop (n - c.count) ys, far.long, h.counted, h.within))
          ∙ omega (arith, h.counted)

      front-long : length front-part ≡ n
      front-long =
          omega (arith, length-append (take b.fed.stored ys) new, new-long, h.counted, length-take-le b.fed.stored ys (omega (arith, far.long, far.room)))

      -- past the strokes of b and then of c
      past : (l : List Stroke) → drop n l ≡ drop c.count (drop b.fed.stored l)
      past l = ap (λ (k : ℕ). drop k l) (omega (arith, h.counted)) ∙ sym (drop-drop c.count b.fed.stored l)

      -- what a copy of them leaves
      pub placed : take (n - c.count) ys ++ (new ++ drop (n - (n - c.count)) (drop (n - c.count) ys)) ≡ front-part ++ drop n ys
      placed =
          let k : n - b.fed.stored ≡ c.count = omega (arith, h.counted) in
          ap (λ (a : ℕ). take a ys ++ (new ++ drop (n - a) (drop a ys))) from-is
          ∙ ap (λ (l : List Stroke). take b.fed.stored ys ++ (new ++ l)) (ap (λ (j : ℕ). drop j (drop b.fed.stored ys)) k ∙ sym (past ys))
          ∙ sym (append_assoc (take b.fed.stored ys) new (drop n ys))

      module _ (zs : List Stroke) (is : zs ≡ front-part ++ drop n ys) where
        front-is : take n zs ≡ front-part
        front-is = ap (take n) is ∙ ap (λ (k : ℕ). take k (front-part ++ drop n ys)) (sym front-long) ∙ take-append_seam front-part (drop n ys)

        back-is : drop n zs ≡ drop n ys
        back-is = ap (drop n) is ∙ ap (λ (k : ℕ). drop k (front-part ++ drop n ys)) (sym front-long) ∙ drop-append_seam front-part (drop n ys)

        pub far-batch : Far c zs
        far-batch = record {
          long = ap length is ∙ length-append front-part (drop n ys) ∙ omega (arith, front-long, length-drop n ys, far.long, h.within);
          room = h.within;
          front =
              far.front ∙ ap (λ (z : Bool). store_all (take b.fed.stored ys) (rest z bytes (length xs) (fed_by b.fed))) more ∙ ap (store_all (take b.fed.stored ys)) h.next
              ∙ ap (λ (l : List Stroke). record { state = (after c).state; taken = (after c).taken; strokes = l; number = (after c).number }) (sym (append_assoc (take b.fed.stored ys) (take c.count c.list) (after c).strokes))
              ∙ ap (λ (l : List Stroke). store_all (take b.fed.stored ys ++ l) (after c)) (sym copied) ∙ ap (λ (l : List Stroke). store_all l (after c)) (sym front-is);
          back = back-is ∙ past ys ∙ ap (drop c.count) far.back ∙ sym (past xs);
        }
