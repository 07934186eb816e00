-- See Invariants.antt. Assumes nothing.
use Prim.Native.Nat.{ℕ, ◌≤◌, ◌<◌, ◌+◌, max}
use native.Mathlib.Omega.{arith}
use mathlib.Core.Path.{◌≡◌, sym, ◌∙◌}
use lib.ListN.{length, get_or}
use Rattle.std.proofs.lemmas.Slice.Zip.{zip_turn, zip_end}
use Rattle.std.proofs.lemmas.List.{length_push}
use Rattle.numbers.specs.Ranges.{below_at, larger_of}
use Rattle.grid.specs.EdgeRule.{Unmarked, unmarked_first, unmarked_later, unmarked_set, may_short, edge_under, known_none, known_more, known_fails, known_all}
use Rattle.grid.proofs.edge_rule.keys_agree.Goals as goal
use Rattle.grid.proofs.edge_rule.keys_agree.Goals.{After-max-top}

pub loop-number-init : goal.loop-number-init
loop-number-init c = (known_none _ _ _ c.requires, unmarked_first _ c.requires.few)

-- the pair of this turn stands at place k of the two lists
turn : (c : After-max-top) → let k = length c.loop-number.yielded in
    (k < length c.args.edges.now) × (k < length c.args.places.now) × ((d : ℕ) → c.in-Some.field-0-0.now ≡ get_or c.args.edges.now k d) × ((d : ℕ) → c.in-Some.field-0-1.now ≡ get_or c.args.places.now k d)
turn c =
    zip_turn c.args.edges.now c.args.places.now c.loop-number.yielded c.into_iter-number-iterator.result c.loop-number.number-iterator c.next.new.self c.next.result (cc) (cc) c.loop-number.yielded_by (c.in-Some.field-0-0, c.in-Some.field-0-1) c.in-Some.is c.next.ensures.steps

here : (c : After-max-top) → c.wide-edge.result ≡ get_or c.args.edges.now (length c.loop-number.yielded) 0
here c = c.wide-edge.ensures ∙ (turn c).2 0

under : (c : After-max-top) → c.wide-edge.result < c.args.count
under c = edge_under _ _ _ c.requires _ (turn c).0 (here c)

-- the new top
above : (c : After-max-top) → (c.loop-number.top ≤ c.max-top.result) × (c.wide-edge.result < c.max-top.result) × (c.max-top.result ≤ c.args.count)
above c =
    let e : c.max-top.result ≡ max c.loop-number.top (c.wide-edge.result + 1) = c.max-top.ensures ∙ larger_of _ _ in
    let low = c.loop-number.invariant.1.below in
    let edge = under c in
    (omega arith, omega arith, omega arith)

fresh : (c : After-max-top) → Unmarked c.loop-number.keys c.max-top.result c.args.count
fresh c = unmarked_later c.loop-number.invariant.1 (above c).0 (above c).2

pub may_have-requires : goal.may_have-requires
may_have-requires c =
    let a = above (goal.at.may_have-requires c).After-max-top in
    (omega (arith, a.2, c.requires.few), a.1)

pub bounds-keys-edge : goal.bounds-keys-edge
bounds-keys-edge c = omega (arith, under (goal.at.bounds-keys-edge c).After-max-top, c.requires.few)

pub loop-number-preserved : goal.loop-number-preserved
loop-number-preserved c =
    let s = (goal.at.loop-number-preserved c).After-max-top in
    let t = turn s in
    let key = t.3 0 in
    rw length_push (
      known_more _ _ _ c.requires c.loop-number.invariant.0 t.0 (here s) key (sym (may_short _ _ (fresh s) (rw key (below_at _ _ c.requires.keys_are_below _ t.1))) ∙ sym c.may_have.ensures ∙ c.if-not-may_have.false),
      unmarked_set _ _ (fresh s) (above s).1,
    )

pub returns-then-not-may_have : goal.returns-then-not-may_have
returns-then-not-may_have c =
    let s = (goal.at.returns-then-not-may_have c).After-max-top in
    let t = turn s in
    let key = t.3 0 in
    known_fails _ _ _ c.requires c.loop-number.invariant.0 t.0 (here s) key (sym (may_short _ _ (fresh s) (rw key (below_at _ _ c.requires.keys_are_below _ t.1))) ∙ sym c.may_have.ensures ∙ c.if-not-may_have.true)

pub returns : goal.returns
returns c =
    let e = zip_end c.args.edges.now c.args.places.now c.loop-number.yielded c.into_iter-number-iterator.result c.loop-number.number-iterator c.next.new.self c.next.result (cc) (cc) c.loop-number.yielded_by c.in-None.is c.next.ensures.steps in
    known_all _ _ _ c.requires _ _ (omega (arith, e, c.requires.long)) c.loop-number.invariant.0
