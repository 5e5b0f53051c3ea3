-- Numbered refusals in order. Document 01, 'Numbered refusals': "Checks run in this order and the first that applies is given".
use Rattle.std.specs.Prelude.{◌≡◌, Bool, true, cond, not, ◌↔◌, List, [], ◌∷◌, ◌++◌, ℕ, eqb}
use Rattle.laws.specs.Test.{both}

-- a row of the table of refusals for one call: its number, when it applies, and the test that says whether it does
pub record Rule : Type 1 where
  pub number : ℕ
  pub Applies : Type 0
  pub test : Bool
  pub right : (test ≡ true) ↔ Applies

-- the number of the first rule that applies, 0 where none does
abbrev pub first_of : List Rule → ℕ
first_of [] = 0
first_of (r ∷ rs) = cond r.test r.number (first_of rs)

-- no rule applies
abbrev pub NoneApplies : List Rule → Type 0
NoneApplies [] = Unit {0}
NoneApplies (r ∷ rs) = (r.Applies → ⊥) × NoneApplies rs

-- of a call that answers with number n by rules, those of `before` tested already: each rule's number is given exactly when its row applies and
-- none tested before it does, and 0 exactly when none applies at all
abbrev pub GivenExactly : ℕ → List Rule → List Rule → Type 0
GivenExactly n before [] = (n ≡ 0) ↔ NoneApplies before
GivenExactly n before (r ∷ rs) = ((n ≡ r.number) ↔ (r.Applies × NoneApplies before)) × GivenExactly n (before ++ (r ∷ [])) rs

-- no rule has this number
abbrev pub fresh : ℕ → List Rule → Bool
fresh n [] = true
fresh n (r ∷ rs) = both (not (eqb r.number n)) (fresh n rs)

-- the numbers of rules are above 0 and no two of them the same, those of `before` included
abbrev pub distinct : List Rule → List Rule → Bool
distinct before [] = fresh 0 before
distinct before (r ∷ rs) =
    both (not (eqb 0 r.number)) (both (fresh r.number before) (both (fresh r.number rs) (distinct (before ++ (r ∷ [])) rs)))
