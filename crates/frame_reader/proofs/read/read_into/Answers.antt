-- `read_into`: the symbols are read into bytes apart, and copied where all are accepted.
use Rattle.std.proofs.Common.{◌≡◌, ◌∙◌, sym, ℕ, ◌≤◌, length, get_or, take, refl, arith, length-take, get_or-take, Ok, Err, Result}
use Rattle.std.proofs.lemmas.Result.{err_from_is_err_and}
use borrow.Rule.Slice.PartMut.{put_mid}
use Rattle.laws.specs.Filled.{Filled}
use Rattle.laws.proofs.Filling.{fill_part}
use Rattle.frame_steps.specs.declared.steps.FrameRefusal.{FrameRefusal}
use Rattle.frame_reader.proofs.ApartLaws.{asked_right, size_holds, symbols_asked, left_refused, left_read}
use Rattle.frame_reader.proofs.read.read_into.Goals.{Start}
use Rattle.frame_reader.proofs.read.read_into.Goals as goal

never : (e : FrameRefusal) (k : ℕ) → ◌≡◌ {A = Result ℕ FrameRefusal} (Err e) (Ok k) → ⊥
never e k h = let z : ◌≡◌ {A = ℕ} 0 1 = cc in absurd (omega (arith, z))

holds : (c : Start) → c.args.s.length ≤ length c.args.apart.now
holds c = size_holds c.args.s c.args.reader c.args.points.now c.args.payload.now c.requires.0 _ c.requires.1

pub symbols_of-requires : goal.symbols_of-requires
symbols_of-requires c = asked_right c.args.s c.args.reader c.args.points.now c.args.payload.now c.requires.0

pub floats_of-requires : goal.floats_of-requires
floats_of-requires c = asked_right c.args.s c.args.reader c.args.points.now c.args.payload.now c.requires.0

pub read_symbols-requires : goal.read_symbols-requires
read_symbols-requires c = symbols_asked c.args.s c.args.reader c.args.points.now c.args.payload.now c.requires.0
    _ (omega (arith, holds (goal.at.read_symbols-requires c).Start, c.requires.0.whole_payload)) _ _ c.symbols_of.ensures
    c.floats_of.ensures.0

pub returns : goal.returns
returns c =
    let fits = holds (goal.at.returns c).Start in
    let kept = c.read_symbols.auto.payload in
    let read = c.read_symbols.new.payload in
    let n = c.args.s.length in
    let copied : Filled 0 0 (λ i. get_or read i 0) n c.args.payload.now (put_mid 0 n c.args.payload.now c.copy_from_slice.new.self) =
    rw c.copy_from_slice.ensures.after (fill_part 0 0 (λ i. get_or read i 0) n n c.args.payload.now (take n read)
    (omega (arith, c.requires.0.whole_payload)) (simp length-take (omega (arith, kept, fits))) refl (λ i l. get_or-take n read i 0 l)) in
    let left = left_read c.args.s c.args.reader c.args.points.now c.args.payload.now c.requires.0
    _ (omega (arith, fits, c.requires.0.whole_payload)) _ _ c.read_symbols.ensures _ c.in_ok-seed.was _
    copied in
    rw c.in_ok-seed.was at left

pub returns-in_err-seed : goal.returns-in_err-seed
returns-in_err-seed c =
    let left = left_refused c.args.s c.args.reader c.args.points.now c.args.payload.now c.requires.0
    _ (omega (arith, holds (goal.at.returns-in_err-seed c).Start, c.requires.0.whole_payload)) _ _ c.read_symbols.ensures
    (λ k e. never _ k (sym c.in_err-seed.was ∙ e)) in
    let passed = err_from_is_err_and c.from_residual.result c.from_residual.ensures.1 in
    rw (passed.1, passed.2, ← c.in_err-seed.was) left
