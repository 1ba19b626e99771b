-- The code of a point.
use Rattle.std.specs.Prelude.{ℕ, List}
use Rattle.book.specs.declared.point.PointCode.{PointCode}

-- its bytes, in their order
abbrev pub code_bytes : PointCode → List ℕ
code_bytes code = code.bytes
