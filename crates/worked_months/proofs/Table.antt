-- The worked months hold: one test of a row, computed over the whole list, and what it tells.
use Rattle.std.proofs.Common.{◌≡◌, Bool, true, false, ◌&&◌, eqb, List, [], ◌∷◌, get_or, ℤ, pos, Ok, Err, refl, arith}
use lib.Signed.{le_z}
use Rattle.std.specs.List.{AllByRecursion}
use Rattle.std.proofs.lemmas.Int.{ints}
use Rattle.std.proofs.lemmas.Bool.{and_parts, eqb-true, both_ways}
use Rattle.tariff.specs.Capacity.{billing_capacity}
use Rattle.tariff.specs.Lines.{index_of}
use Rattle.tariff.specs.Pricing.{Outcome}
use Rattle.tariff.specs.Rounding.{nearest, nearest_cents}
use Rattle.tariff.specs.Totals.{total}
use Rattle.tariff.specs.declared.line.Line.{Line}
use Rattle.rates.specs.Dts.{excess_kva}
use Rattle.riders.specs.Credit.{credits}
use Rattle.riders.specs.Percent.{sum_of}
use Rattle.worked_months.specs.Months.{Worked, capacity, line, Says, Holds, worked_months}

says : Line → ℤ → Outcome → Bool
says l cents (Ok amounts) =
    let found = get_or amounts (index_of l) (pos 0) in le_z found cents && le_z cents found
says l cents (Err fault) = false

test : Worked → Bool
test (capacity month tenths) = eqb (billing_capacity month) tenths
test (line meaning month hours l cents) = says l cents (meaning month hours)

says_tells : (l : Line) (cents : ℤ) (outcome : Outcome) → says l cents outcome ≡ true → Says l cents outcome
unfolding says
says_tells l cents (Ok amounts) e =
    let found = get_or amounts (index_of l) (pos 0) in
    let both = and_parts (le_z found cents) (le_z cents found) e in
    omega (arith, ints, both.0, both.1)
says_tells l cents (Err fault) e = both_ways false refl e

test_tells : (w : Worked) → test w ≡ true → Holds w
unfolding test
test_tells (capacity month tenths) e = eqb-true (billing_capacity month) tenths e
test_tells (line meaning month hours l cents) e = says_tells l cents (meaning month hours) e

every : List Worked → Bool
every [] = true
every (w ∷ rows) = test w && every rows

every_tells : (rows : List Worked) → every rows ≡ true → AllByRecursion Holds rows
unfolding every
every_tells [] e = tt
every_tells (w ∷ rows) e =
    let both = and_parts (test w) (every rows) e in (test_tells w both.0, every_tells rows both.1)

pub all_hold : AllByRecursion Holds worked_months
unfolding every test says billing_capacity total nearest_cents nearest excess_kva sum_of credits
all_hold = every_tells worked_months refl
