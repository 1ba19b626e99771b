-- What an error is in print.
use Rattle.std.specs.Prelude.{ℕ, List, ◌++◌, codes}
use Rattle.journal.specs.PostKinds.{post_form}
use Rattle.journal.specs.Verbs.{verb_form}
use Rattle.journal.specs.declared.parse_error.ParseError.{ParseError}
use Rattle.journal.specs.declared.parse_error.ParseError.TheVariants.{OutOfMemory, NoCall, Expected, NoPost}

abbrev pub parse_error_text : ParseError → List ℕ
parse_error_text OutOfMemory = codes "out of memory"
parse_error_text NoCall = codes "no call begins so"
parse_error_text (Expected verb) = codes "expected: " ++ verb_form verb
parse_error_text (NoPost kind) = codes "expected: " ++ post_form kind
