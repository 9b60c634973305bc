-- A feed of what is left of the block, or of a part of it, stores no more strokes than there is room for, and takes no byte past the end.
use borrow.Author.Rules.{rules}
use mathlib.Core.Path.{◌≡◌, ap, ◌∙◌}
use Prim.Native.Nat.{ℕ, ◌-◌, ◌≤◌}
use mathlib.Core.Bool.{Bool}
use mathlib.Core.List.{List}
use lib.ListN.{length, take, drop}
use Rattle.feeding.specs.Feed.{feed_of}
use Rattle.feeding.proofs.FeedLaws.{feed-usable}
use Rattle.feed.specs.declared.Listed.{Listed}
use Rattle.feed.specs.Fed.{listed_by, listed_of}
use Rattle.preview.specs.declared.strokes.Drawing.{Drawing}
use Rattle.preview.specs.Listings.{listed-is}
use Rattle.noting.specs.Astray.{part_end}
use Rattle.noting.specs.AstrayLaws.{part-within}
use Rattle.preview.specs.Drawing.{part_of, fed_of}
use Rattle.preview.specs.DrawingLaws.{step-within}
use Rattle.preview.proofs.strokes.fed.Goals as goal

-- the part is one of the block
inside : (n : ℕ) (block : List ℕ) (at : ℕ) (astray : Bool) → n ≡ part_end block at astray → at ≤ length block → (at ≤ n) × (n ≤ length block)
inside n block at astray e h = rw e (part-within block at h astray)

pub slice_bounds-feed_list-count : goal.slice_bounds-feed_list-count
slice_bounds-feed_list-count c = (inside _ c.args.block.now c.args.d.now.at c.args.d.now.astray c.part_end-end.ensures c.requires).0

pub slice_bounds-feed_list-start : goal.slice_bounds-feed_list-start
slice_bounds-feed_list-start c =
    let h = (inside _ c.args.block.now c.args.d.now.at c.args.d.now.astray c.part_end-end.ensures c.requires).0 in
    search (rules, h)

pub slice_bounds-feed_list-end : goal.slice_bounds-feed_list-end
slice_bounds-feed_list-end c =
    let h = (inside _ c.args.block.now c.args.d.now.at c.args.d.now.astray c.part_end-end.ensures c.requires).1 in
    search (rules, h)

-- the answer is that of the definition
listed : (d : Drawing) (block : List ℕ) (l : Listed) (end : ℕ) → end ≡ part_end block d.at d.astray
    → listed_by l ≡ listed_of (feed_of d.machine.state (take (end - d.at) (drop d.at block)) 64) → l ≡ fed_of d block
listed d block l end e h =
    listed-is l (feed-usable d.machine.state (part_of d block) 0 64 d.machine.usable)
    (h ∙ ap (λ (n : ℕ). listed_of (feed_of d.machine.state (take (n - d.at) (drop d.at block)) 64)) e)

pub returns-clause-value : goal.returns-clause-value
returns-clause-value c = listed c.args.d.now c.args.block.now c.feed_list.result _ c.part_end-end.ensures c.feed_list.ensures

pub returns-clause-in_bounds : goal.returns-clause-in_bounds
returns-clause-in_bounds c =
    rw (listed c.args.d.now c.args.block.now c.feed_list.result _ c.part_end-end.ensures c.feed_list.ensures)
    (step-within c.args.d.now c.args.block.now c.args.d.now.hand c.requires)
