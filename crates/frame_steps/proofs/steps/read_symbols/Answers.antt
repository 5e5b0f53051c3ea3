-- `read_symbols`: before each symbol, all before it are accepted, and their steps led to what is carried.
use Rattle.std.proofs.Common.{◌≡◌, ◌∙◌, sym, ap, inl, inr, arith, rules, List, length, drop, ◌+◌, ◌<◌, ◌≤◌, Ok, Err, Some, None, Option, Result, ℕ, ◌⊎◌, unwrap_or, Float}
use borrow.Author.Rules.{part_to_end}
use Rattle.symbols.specs.Symbols.{symbols_of}
use Rattle.acceptance.specs.declared.accept.StepRefusal.{StepRefusal}
use Rattle.acceptance.specs.declared.accept.StepRefusal.TheVariants.{BadPoint as BadSymbolPoint, Refused}
use Rattle.reader.specs.Step.{step_of, step_into, step_number}
use Rattle.reader_runs.specs.Sent.{settings_for}
use Rattle.frame_steps.specs.declared.steps.FrameRefusal.TheVariants.{BadPoint}
use Rattle.frame_steps.specs.WholeFrame.{refused_as}
use Rattle.frame_steps.proofs.LoopLaws.{refusal_some, before_first, inside, before_next, read_refused, read_all}
use Rattle.frame_steps.proofs.steps.read_symbols.Goals.{In-loop-n, After-step-stepped, In-Err-BadPoint, In-Err-Refused}
use Rattle.frame_steps.proofs.steps.read_symbols.Goals as goal

below : (c : In-loop-n) → c.loop-n.n < symbols_of (settings_for c.args.reader.settings)
below c = omega (arith, c.loop-n-test.true, c.requires.counted)

room : (c : In-loop-n) → c.loop-n.at + c.args.floats ≤ length c.args.points.now
room c = inside c.args.reader c.args.count c.args.floats c.args.points.now c.args.payload.now c.requires
    c.loop-n.n c.loop-n.payload c.loop-n.state c.loop-n.seed c.loop-n.at c.loop-n.invariant (below c)

stepped : (c : After-step-stepped)
    → c.step-stepped.result ≡ step_of c.loop-n.state (drop c.loop-n.at c.args.points.now) (length c.loop-n.payload)
stepped c = c.step-stepped.ensures.value
    ∙ ap (λ (p : List Float). step_of c.loop-n.state p (length c.loop-n.payload)) (part_to_end c.args.points.now c.loop-n.at)

left : (c : After-step-stepped)
    → c.step-stepped.new.payload ≡ step_into c.loop-n.state (drop c.loop-n.at c.args.points.now) c.loop-n.payload
left c = c.step-stepped.ensures.payload_after
    ∙ ap (λ (p : List Float). step_into c.loop-n.state p c.loop-n.payload) (part_to_end c.args.points.now c.loop-n.at)

bad_point : (c : In-Err-BadPoint) → c.step-stepped.result.answer ≡ Err (BadSymbolPoint c.in-Err-BadPoint.i c.in-Err-BadPoint.z)
bad_point c =
    let inner : c.in-Err-BadPoint.field-0 ≡ BadSymbolPoint c.in-Err-BadPoint.i c.in-Err-BadPoint.z =
    rw c.in-Err-BadPoint.is at c.in-Err-BadPoint.field-0-is in
    c.in-Err-BadPoint.is ∙ ap Err inner

refused : (c : In-Err-Refused) → c.step-stepped.result.answer ≡ Err (Refused c.in-Err-Refused.r)
refused c =
    let inner : c.in-Err-Refused.field-0 ≡ Refused c.in-Err-Refused.r = rw c.in-Err-Refused.is at c.in-Err-Refused.field-0-is in
    c.in-Err-Refused.is ∙ ap Err inner

-- the seed of the answer to the first symbol, and after it the one that is there
first_told : (a : Result (Option ℕ) StepRefusal) (first : Option ℕ) (seed seed' : ℕ) → a ≡ Ok first → seed' ≡ unwrap_or first seed
    → (a ≡ Ok (Some seed')) ⊎ ((a ≡ Ok None) × (seed' ≡ seed))
first_told a (Some k) seed seed' e h = inl (e ∙ ap (λ (x : ℕ). Ok (Some x)) (sym h))
first_told a None seed seed' e h = inr (e, h)

pub loop-n-init : goal.loop-n-init
loop-n-init c = before_first c.args.reader c.args.count c.args.floats c.args.points.now c.args.payload.now c.requires

pub offset_bounds-points-at : goal.offset_bounds-points-at
offset_bounds-points-at c = let r = room (goal.at.offset_bounds-points-at c).In-loop-n in search rules

pub slice_bounds-step-count : goal.slice_bounds-step-count
slice_bounds-step-count c = let r = room (goal.at.slice_bounds-step-count c).In-loop-n in search rules

pub slice_bounds-step-start : goal.slice_bounds-step-start
slice_bounds-step-start c = let r = room (goal.at.slice_bounds-step-start c).In-loop-n in search rules

pub slice_bounds-step-end : goal.slice_bounds-step-end
slice_bounds-step-end c = let r = room (goal.at.slice_bounds-step-end c).In-loop-n in search rules

pub returns-in-Err-BadPoint : goal.returns-in-Err-BadPoint
returns-in-Err-BadPoint c = let at = goal.at.returns-in-Err-BadPoint c in
    read_refused c.args.reader c.args.count c.args.floats c.args.points.now c.args.payload.now c.requires
    c.loop-n.n c.loop-n.payload c.loop-n.state c.loop-n.seed c.loop-n.at c.loop-n.invariant
    (below at.In-loop-n) c.step-stepped.result (stepped at.After-step-stepped) _ (left at.After-step-stepped)
    (λ z. omega (arith, sym (ap step_number (bad_point at.In-Err-BadPoint)) ∙ z)) _
    (ap (λ w. Err (BadPoint c.loop-n.n c.in-Err-BadPoint.i w)) {y = c.in-Err-BadPoint.z} (search rules)
    ∙ sym (ap (refused_as c.loop-n.n) (bad_point at.In-Err-BadPoint)))

pub returns-in-Err-Refused : goal.returns-in-Err-Refused
returns-in-Err-Refused c = let at = goal.at.returns-in-Err-Refused c in
    read_refused c.args.reader c.args.count c.args.floats c.args.points.now c.args.payload.now c.requires
    c.loop-n.n c.loop-n.payload c.loop-n.state c.loop-n.seed c.loop-n.at c.loop-n.invariant
    (below at.In-loop-n) c.step-stepped.result (stepped at.After-step-stepped) _ (left at.After-step-stepped)
    (λ z. refusal_some c.in-Err-Refused.r (sym (ap step_number (refused at.In-Err-Refused)) ∙ z)) _
    (sym (ap (refused_as c.loop-n.n) (refused at.In-Err-Refused)))

pub overflow_add-at : goal.overflow_add-at
overflow_add-at c = omega (arith, room (goal.at.overflow_add-at c).In-loop-n)

pub loop-n-preserved : goal.loop-n-preserved
loop-n-preserved c = let at = goal.at.loop-n-preserved c in
    before_next c.args.reader c.args.count c.args.floats c.args.points.now c.args.payload.now c.requires
    c.loop-n.n c.loop-n.payload c.loop-n.state c.loop-n.seed c.loop-n.at c.loop-n.invariant
    (below at.In-loop-n) c.step-stepped.result (stepped at.After-step-stepped) _ (left at.After-step-stepped) _
    (first_told c.step-stepped.result.answer c.in-Ok.first c.loop-n.seed _ c.in-Ok.is c.unwrap_or-seed.ensures) c.step-stepped.auto.payload

pub returns : goal.returns
returns c = read_all c.args.reader c.args.count c.args.floats c.args.points.now c.args.payload.now c.requires
    c.loop-n.n c.loop-n.payload c.loop-n.state c.loop-n.seed c.loop-n.at c.loop-n.invariant
    (omega (arith, c.loop-n-test.false, c.requires.counted))
