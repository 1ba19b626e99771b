-- The facts of a month, as its file stands.
use Rattle.std.specs.Prelude.{ℕ, List, slice_index_or}
use Rattle.tariff.specs.declared.facts.PlainFacts.{PlainFacts}
use Rattle.store.specs.Months.{Month, no_month, peak, peak_kva, ratchet_peak}

-- of the month at place k, at a point of such a contract capacity and such a sum of them at its substation
unfoldable pub facts_of_month : ℕ → ℕ → List ℕ → List Month → ℕ → PlainFacts
facts_of_month contract substation before months k =
    let month = slice_index_or months k no_month in
    record {
      contract = contract;
      substation = substation;
      peak = peak month;
      peak_kva = peak_kva month;
      ratchet_peak = ratchet_peak before months k;
    }
