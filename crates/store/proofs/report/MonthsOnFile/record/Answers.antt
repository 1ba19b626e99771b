use Rattle.std.proofs.Common.{◌≡◌, ◌+◌, ◌<◌, ◌≤◌, None, Some, arith}
use Rattle.std.proofs.lemmas.List.{get_or_default}
use Rattle.store.specs.Records.{first_record}
use Rattle.store.specs.Stores.{filed_in}
use Rattle.store.specs.declared.carried.TheConstants.{RATCHET}
use Rattle.store.proofs.Views.{record_found}
use Rattle.store.proofs.report.MonthsOnFile.record.Goals as goal

pub returns-then-k-self : goal.returns-then-k-self
returns-then-k-self c =
    let file = filed_in c.args.self.now in
    let k = c.args.k in
    let month = c.index-self-k.result in
    let same = get_or_default file.records (RATCHET + k) month first_record
    (omega (arith, file.recorded, file.few, c.if-k-self.true)) in
    let found = record_found file k (Some _) (c.if-k-self.true, same) in
    record { there = found.0; days = found.1; state = found.2; peak = found.3 }

pub returns-else-k-self : goal.returns-else-k-self
returns-else-k-self c =
    let found = record_found (filed_in c.args.self.now) c.args.k None c.if-k-self.false in
    record { there = found.0; days = found.1; state = found.2; peak = found.3 }
