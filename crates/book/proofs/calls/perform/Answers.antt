use Rattle.std.proofs.Common.{◌≡◌, Some, None, Option, Ok, Err, Result, OnErr, refl, ap, ◌∙◌}
use Rattle.std.specs.Result.{MatchResult}
use Rattle.tariff.specs.Pricing.{Meaning}
use Rattle.tariff.specs.declared.refusal.Refusal.{Refusal}
use Rattle.book.specs.Books.{Answers, Performs, view}
use Rattle.book.specs.Calls.{Call, Question, Reply, asks}
use Rattle.book.specs.Requests.{LeavesAll, PerformsAs, answer_by, answer_of, call_of}
use Rattle.book.specs.Steps.{view_unless}
use Rattle.book.specs.Table.{refusal_of}
use Rattle.book.specs.Views.{View}
use Rattle.book.specs.declared.book.Book.{Book}
use Rattle.book.specs.declared.request.Answer.{Answer}
use Rattle.book.specs.declared.request.Answer.TheVariants.{Done, IsDue, Refused, Started, Sum, Written}
use Rattle.book.specs.declared.request.Request.{Request}
use Rattle.book.proofs.Exits.{same_memory, unaltered}
use Rattle.book.proofs.calls.perform.Goals as goal

-- what was given for what a call replied or refused
abbrev Given : {X : Type 0} → (X → Answer) → Result X Refusal → Answer → Type 0
Given as_answer r a = MatchResult r (λ reply. a ≡ as_answer reply) (λ refusal. a ≡ Refused refusal)

-- a question alters nothing, whether it is refused or not
unmoved : (o : Option Refusal) (v : View) → v ≡ view_unless o v v
unmoved None v = refl
unmoved (Some refusal) v = refl

module _ (call : Call) (as_answer : Reply call → Answer)
    (kind : (r : Result (Reply call) Refusal) → answer_by as_answer r ≡ answer_of call r) where
  given_of : (r : Result (Reply call) Refusal) (a : Answer) → Given as_answer r a → a ≡ answer_of call r
  given_of (Ok reply) a is = is ∙ kind (Ok reply)
  given_of (Err refusal) a is = is ∙ kind (Err refusal)

  -- where no reply leaves all, only a refusal does
  refused_of : ((reply : Reply call) → LeavesAll call (as_answer reply) → ⊥) → {P : Type 0}
      → (r : Result (Reply call) Refusal) (a : Answer) → Given as_answer r a → OnErr r P → LeavesAll call a → P
  refused_of changes (Ok reply) a is kept leaves = absurd (changes reply (rw is at leaves))
  refused_of changes (Err refusal) a is kept leaves = kept

-- what the request that was matched answers and leaves
module _ (meaning : Meaning) (book : Book) {request known : Request} (is : request ≡ known)
    (as_answer : Reply (call_of known) → Answer)
    (kind : (r : Result (Reply (call_of known)) Refusal) → answer_by as_answer r ≡ answer_of (call_of known) r)
    (r : Result (Reply (call_of known)) Refusal) (a : Answer) (given : Given as_answer r a) where
  -- of a call that changes the book where it is not refused
  performs_as : (book' : Book) → ((reply : Reply (call_of known)) → LeavesAll (call_of known) (as_answer reply) → ⊥)
      → Performs meaning (call_of known) book r book' → PerformsAs meaning (call_of request) book a book'
  performs_as book' changes performed =
      rw is
      (record {
        answers = given_of (call_of known) as_answer kind r a given ∙ ap (answer_of (call_of known)) performed.answers;
        leaves = performed.leaves;
        keeps = refused_of (call_of known) as_answer kind changes r a given performed.keeps;
        memory = performed.memory;
      })

  -- of a question
  answers_as : (question : Question) → call_of known ≡ asks question → Answers meaning (call_of known) book r
      → PerformsAs meaning (call_of request) book a book
  answers_as question asked answered =
      let v = view book in
      rw (is, asked)
      (record {
        answers = rw asked at (given_of (call_of known) as_answer kind r a given ∙ ap (answer_of (call_of known)) answered);
        leaves = unmoved (refusal_of meaning (asks question) v) v;
        keeps = λ _. unaltered book;
        memory = same_memory book;
      })

pub returns-in-Open : goal.returns-in-Open
returns-in-Open g c =
    performs_as (g.S.Schedule.meaning c.args.schedule.now) c.args.book.now c.in-Open.is (λ _. Done) (λ r. refl) _ _ c.map_or_else.ensures _ (λ reply all. all) (c.open.ensures (g.S.Schedule.meaning c.args.schedule.now))

pub returns-in-Start : goal.returns-in-Start
returns-in-Start g c =
    performs_as (g.S.Schedule.meaning c.args.schedule.now) c.args.book.now c.in-Start.is Started (λ r. refl) _ _ c.map_or_else-in-Start.ensures _ (λ reply all. all) (c.start.ensures (g.S.Schedule.meaning c.args.schedule.now))

pub returns-in-Post : goal.returns-in-Post
returns-in-Post g c =
    performs_as (g.S.Schedule.meaning c.args.schedule.now) c.args.book.now c.in-Post.is (λ _. Done) (λ r. refl) _ _ c.map_or_else-in-Post.ensures _ (λ reply all. all) (c.post.ensures (g.S.Schedule.meaning c.args.schedule.now))

pub returns-in-PostDay : goal.returns-in-PostDay
returns-in-PostDay g c =
    performs_as (g.S.Schedule.meaning c.args.schedule.now) c.args.book.now c.in-PostDay.is (λ _. Done) (λ r. refl) _ _ c.map_or_else-in-PostDay.ensures _ (λ reply all. all) (c.post_day.ensures (g.S.Schedule.meaning c.args.schedule.now))

pub returns-in-Bill : goal.returns-in-Bill
returns-in-Bill g c =
    performs_as (g.S.Schedule.meaning c.args.schedule.now) c.args.book.now c.in-Bill.is Written (λ r. refl) _ _ c.map_or_else-in-Bill.ensures _ (λ reply all. all) c.bill.ensures

pub returns-in-TrueUp : goal.returns-in-TrueUp
returns-in-TrueUp g c =
    performs_as (g.S.Schedule.meaning c.args.schedule.now) c.args.book.now c.in-TrueUp.is Written (λ r. refl) _ _ c.map_or_else-in-TrueUp.ensures _ (λ reply all. all) c.true_up.ensures

pub returns-in-Finalise : goal.returns-in-Finalise
returns-in-Finalise g c =
    performs_as (g.S.Schedule.meaning c.args.schedule.now) c.args.book.now c.in-Finalise.is (λ _. Done) (λ r. refl) _ _ c.map_or_else-in-Finalise.ensures _ (λ reply all. all) c.finalise.ensures

pub returns-in-Due : goal.returns-in-Due
returns-in-Due g c =
    answers_as (g.S.Schedule.meaning c.args.schedule.now) c.args.book.now c.in-Due.is IsDue (λ r. refl) _ _ c.map_or_else-in-Due.ensures _ refl c.due.ensures

pub returns-in-Total : goal.returns-in-Total
returns-in-Total g c =
    answers_as (g.S.Schedule.meaning c.args.schedule.now) c.args.book.now c.in-Total.is Sum (λ r. refl) _ _ c.map_or_else-in-Total.ensures _ refl (c.total.ensures (g.S.Schedule.meaning c.args.schedule.now))
