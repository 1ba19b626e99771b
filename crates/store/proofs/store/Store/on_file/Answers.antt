use Rattle.store.proofs.Kept.{same_filed}
use Rattle.store.proofs.store.Store.on_file.Goals as goal

pub returns : goal.returns
returns c =
    let store = c.args.self.now in
    same_filed store.months.now store.quarters.now store.hours.now _ _
