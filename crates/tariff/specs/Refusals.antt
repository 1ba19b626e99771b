-- The refusal table: for each kind of refusal its number, the month that the call named, a place and a
-- rider number.
use Rattle.std.specs.Prelude.{ℕ, List, ◌++◌, codes, decimal, unwrap_or}
use Rattle.tariff.specs.Lines.{line_name, number_of}
use Rattle.tariff.specs.declared.refusal.Fault.{Fault}
use Rattle.tariff.specs.declared.refusal.Numbers.{Numbers}
use Rattle.tariff.specs.declared.refusal.Refusal.{Refusal}
use Rattle.tariff.specs.declared.refusal.Refusal.TheVariants.{BookBlank, BookOpen, OpeningOutside, NoMonthFree, DaysOutside, NoSuchMonth, MonthFinal, NoSuchPlace, OtherPoint, OutsideLimit, Missing, MonthBilled, MonthOpen, EarlierMonth, LinePastLimit, LedgerFull, MonthDue, FigureOutside, TooFewBytes}

-- the number of a kind, with no month, place or rider
abbrev pub kind_numbers : ℕ → Numbers
kind_numbers number = record { number = number; month = 0; place = 0; rider = 0 }

abbrev pub numbers_of : Refusal → Numbers
numbers_of (BookBlank month) = record (kind_numbers 1) { month = month }
numbers_of BookOpen = kind_numbers 2
numbers_of OpeningOutside = kind_numbers 3
numbers_of NoMonthFree = kind_numbers 4
numbers_of DaysOutside = kind_numbers 5
numbers_of (NoSuchMonth month) = record (kind_numbers 6) { month = month }
numbers_of (MonthFinal month) = record (kind_numbers 7) { month = month }
numbers_of (NoSuchPlace month place) = record (kind_numbers 8) { month = month; place = place }
numbers_of (OtherPoint month) = record (kind_numbers 9) { month = month }
numbers_of (OutsideLimit month place) = record (kind_numbers 10) { month = month; place = place }
numbers_of (Missing month place) = record (kind_numbers 11) { month = month; place = place }
numbers_of (MonthBilled month) = record (kind_numbers 12) { month = month }
numbers_of (MonthOpen month) = record (kind_numbers 13) { month = month }
numbers_of (EarlierMonth month place) = record (kind_numbers 14) { month = month; place = place }
numbers_of (LinePastLimit month fault) = record (kind_numbers 15) {
  month = month;
  place = number_of fault.line;
  rider = unwrap_or fault.rider 0;
}
numbers_of (LedgerFull month place) = record (kind_numbers 16) { month = month; place = place }
numbers_of (MonthDue month place) = record (kind_numbers 17) { month = month; place = place }
numbers_of (FigureOutside place) = record (kind_numbers 18) { place = place }
numbers_of TooFewBytes = kind_numbers 19

-- a refusal in print: the word and the four numbers, one space between
abbrev pub refusal_text : Refusal → List ℕ
refusal_text refusal =
    let n = numbers_of refusal in
    codes "refused " ++ (decimal n.number ++ (codes " " ++
    (decimal n.month ++ (codes " " ++ (decimal n.place ++ (codes " " ++ decimal n.rider))))))

-- a fault in print: the name of the line, and what is wrong with it
abbrev pub fault_text : Fault → List ℕ
fault_text fault = line_name fault.line ++ codes " passes the limit of an amount"
