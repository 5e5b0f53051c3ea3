-- A buffer that is filled read by read, and the listing of what was read. Assumes nothing.
use Rattle.std.proofs.Common.{◌≡◌, ℕ, ◌+◌, ◌-◌, ◌≤◌, List, ◌++◌, length, take, sym, ap, ◌∙◌, length-take-le}
use borrow.Rule.Slice.PartMut.{put_mid, post_of}
use lib.Seq.{take-append-add, take-append-le}

-- what stood in front of a read, and what the read put behind it
pub read_behind : (at n : ℕ) (old new : List ℕ) → at ≤ length old → n ≤ length new
    → take at old ++ take n new ≡ take (at + n) (put_mid at (length old - at) old new)
read_behind at n old new within fits =
    let front : List ℕ = take at old in
    let after : List ℕ = post_of at (length old - at) old in
    sym
    (ap (λ (k : ℕ). take (k + n) (front ++ (new ++ after))) (sym (length-take-le at old within))
    ∙ take-append-add front (new ++ after) n
    ∙ ap (λ (l : List ℕ). front ++ l) (take-append-le n new after fits))
