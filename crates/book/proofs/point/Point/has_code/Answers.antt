use Rattle.std.proofs.lemmas.Slice.Eq.{slice_eq-Decides, bytes_eq-Decides}
use Rattle.std.proofs.lemmas.Bool.Decides.{same_from_decides, Decides-eqb}
use Rattle.book.proofs.point.Point.has_code.Goals as goal

pub returns : goal.returns
returns c =
    let code = c.args.code.bytes in
    let own = c.args.self.now.code.bytes in
    same_from_decides c.eq.result _ (slice_eq-Decides Decides-eqb code own c.eq.result c.eq.ensures) (bytes_eq-Decides code own)
