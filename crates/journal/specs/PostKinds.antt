-- What a line of a file that is loaded writes down.
use Rattle.std.specs.Prelude.{ℕ, if◌then◌else◌, List, [], ◌∷◌, Option, Some, None, Result, Ok, Err, bytes_eq, codes}
use Rattle.std.specs.Option.{option_map}
use Rattle.store.specs.declared.post.Post.{Post}
use Rattle.store.specs.declared.post.Post.TheVariants.{Reading as TheReading, Price as ThePrice, Scheduled as TheScheduled}
use Rattle.journal.specs.Tokens.{cut_of, parsed_number, reading_between}
use Rattle.journal.specs.Words.{◌>>=◌, comma}
use Rattle.journal.specs.declared.parse_error.ParseError.{ParseError}
use Rattle.journal.specs.declared.parse_error.ParseError.TheVariants.{NoPost}
use Rattle.journal.specs.declared.post_kind.PostKind.{PostKind}
use Rattle.journal.specs.declared.post_kind.PostKind.TheVariants.{Reading, Price, Scheduled}

-- the word that names the posts of a file
abbrev pub kind_word : PostKind → List ℕ
kind_word Reading = codes "readings"
kind_word Price = codes "prices"
kind_word Scheduled = codes "schedule"

abbrev pub kind_named : List ℕ → Option PostKind
kind_named word =
    if bytes_eq word (kind_word Reading) then Some Reading
    else if bytes_eq word (kind_word Price) then Some Price
    else if bytes_eq word (kind_word Scheduled) then Some Scheduled
    else None

-- what a line of the file is written as
abbrev pub post_form : PostKind → List ℕ
post_form Reading = codes "QUARTER,KW,KVA"
post_form Price = codes "HOUR,CENTS"
post_form Scheduled = codes "HOUR,KW"

-- the post after its place
abbrev pub post_after : PostKind → List ℕ → Option Post
post_after Reading text = option_map TheReading (reading_between comma text)
post_after Price text = option_map ThePrice (parsed_number text)
post_after Scheduled text = option_map TheScheduled (parsed_number text)

-- a place, a comma, and the post
unfoldable pub post_of : PostKind → List ℕ → Option (ℕ × Post)
post_of kind word = do
  parts ← cut_of comma word
  place ← parsed_number parts.0
  post ← post_after kind parts.1
  Some (place, post)

abbrev pub post_result : PostKind → Option (ℕ × Post) → Result (Option (ℕ × Post)) ParseError
post_result kind None = Err (NoPost kind)
post_result kind (Some post) = Ok (Some post)

-- what a line of these words is in such a file: a post in one word, or nothing where there is no word
abbrev pub post_line : PostKind → List (List ℕ) → Result (Option (ℕ × Post)) ParseError
post_line kind [] = Ok None
post_line kind (word ∷ []) = post_result kind (post_of kind word)
post_line kind (word ∷ another ∷ words) = Err (NoPost kind)
