-- The call that a record describes.
use Rattle.std.specs.Prelude.{ℕ, ◌+◌, if◌then◌else◌, List, [], ◌∷◌, take, drop, length, Some, None, Option, nat_le}
use Rattle.std.specs.List.{slice_get}
use Rattle.std.specs.Option.{option_and_then, option_map}
use Rattle.book.specs.Calls.{Call, opens, starts, posts, posts_day, bills, trues_up, finalises, asks, whether_due, line_total}
use Rattle.store.specs.declared.post.Post.TheVariants.{Reading as OfReading, Price as OfPrice, Scheduled as OfScheduled}
use Rattle.store.specs.declared.post.Reading.{Reading}
use Rattle.exports.specs.declared.call.CallKind.{CallKind}
use Rattle.exports.specs.declared.call.CallKind.TheVariants.{Open, Start, PostReading, PostDay, PostPrice, PostScheduled, Bill, TrueUp, Finalise, Due, Total}
use Rattle.exports.specs.declared.call.CallRecord.{CallRecord}

-- the kinds of calls in the order of their numbers, from 0
abbrev pub call_kinds : List CallKind
call_kinds =
    Open ∷ Start ∷ PostReading ∷ PostDay ∷ PostPrice ∷ PostScheduled
    ∷ Bill ∷ TrueUp ∷ Finalise ∷ Due ∷ Total ∷ []

-- so many items of a list from a place on, where it has them
abbrev pub part_of : {X : Type 0} → List X → ℕ → ℕ → Option (List X)
part_of items from count =
    if nat_le (from + count) (length items) then Some (take count (drop from items)) else None

-- the call of each kind, with the lists lent beside its record; none where a part does not lie in its list
abbrev pub call_of_kind : List ℕ → List Reading → CallRecord → CallKind → Option Call
call_of_kind carried readings r Open =
    option_map (opens r.code r.first r.second) (part_of carried r.from r.count)
call_of_kind carried readings r Start = Some (starts r.place)
call_of_kind carried readings r PostReading =
    Some (posts r.month r.place (OfReading (record { kw = r.first; kva = r.second })))
call_of_kind carried readings r PostDay =
    option_map (posts_day r.month r.place r.code) (part_of readings r.from r.count)
call_of_kind carried readings r PostPrice = Some (posts r.month r.place (OfPrice r.first))
call_of_kind carried readings r PostScheduled = Some (posts r.month r.place (OfScheduled r.first))
call_of_kind carried readings r Bill = Some (bills r.month)
call_of_kind carried readings r TrueUp = Some (trues_up r.month)
call_of_kind carried readings r Finalise = Some (finalises r.month)
call_of_kind carried readings r Due = Some (asks (whether_due r.month))
call_of_kind carried readings r Total = Some (asks (line_total r.month r.place))

-- none, too, where the number is of no call
abbrev pub described_call : List ℕ → List Reading → CallRecord → Option Call
described_call carried readings r =
    option_and_then (call_of_kind carried readings r) (slice_get call_kinds r.kind)
