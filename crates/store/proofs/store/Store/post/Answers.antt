use Rattle.std.proofs.Common.{◌≡◌, ◌<◌, leb, Some, None, ap, sym, refl, ◌∙◌, arith, rules, tests, true}
use Rattle.std.proofs.lemmas.Bool.{cond-true}
use Rattle.store.specs.Months.{hours_of}
use Rattle.store.specs.Posts.{post_places, post_within}
use Rattle.store.specs.Stores.{filed}
use Rattle.store.proofs.Alterations.{alters_hour, record_at}
use Rattle.store.proofs.store.Store.post.Goals as goal

pub returns-in-Price-clause-posted : goal.returns-in-Price-clause-posted
returns-in-Price-clause-posted c =
    let store = filed c.args.self.now in
    let price = c.in-Price.price in
    let places : c.places.result ≡ hours_of c.days_of.result = c.places.ensures
    ∙ ap (λ post. post_places post c.days_of.result) c.in-Price.is in
    let yes : c.is_within.result ≡ true = search (rules, tests) in
    let within : leb price 99999 ≡ true = sym (ap post_within c.in-Price.is) ∙ sym c.is_within.ensures
    ∙ yes in
    let started = c.days_of.ensures.there (omega arith) in
    let days = c.days_of.ensures.recorded (omega arith) in
    let below : c.args.place < hours_of (record_at store c.args.k).days = omega arith in
    rw c.in-Price.is (alters_hour store _ c.args.k c.args.place started below
    (λ old. record old { price = Some price }) _ c.index-self-k.result refl refl refl refl
    (rw (cond-true (leb price 99999) (Some price) None within) refl))

pub returns-in-Scheduled-clause-posted : goal.returns-in-Scheduled-clause-posted
returns-in-Scheduled-clause-posted c =
    let store = filed c.args.self.now in
    let kw = c.in-Scheduled.kw in
    let places : c.places.result ≡ hours_of c.days_of.result = c.places.ensures
    ∙ ap (λ post. post_places post c.days_of.result) c.in-Scheduled.is in
    let started = c.days_of.ensures.there (omega arith) in
    let days = c.days_of.ensures.recorded (omega arith) in
    let below : c.args.place < hours_of (record_at store c.args.k).days = omega arith in
    rw c.in-Scheduled.is (alters_hour store _ c.args.k c.args.place started below
    (λ old. record old { scheduled = kw }) _ c.index-self-k-in-Scheduled.result refl refl refl refl refl)
