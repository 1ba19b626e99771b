use Rattle.std.proofs.Common.{not, leb, sym, refl, ap, ◌∙◌, rules}
use Rattle.store.specs.Posts.{month_with_post, post_answer, post_places, post_within}
use Rattle.book.specs.Books.{view}
use Rattle.book.specs.Calls.{posts}
use Rattle.book.specs.Posts.{post_refusal}
use Rattle.book.specs.Table.{post_rows}
use Rattle.book.specs.Views.{month_at}
use Rattle.book.proofs.Exits.{is_refused_by, not_final_passes}
use Rattle.book.proofs.Left.{answered, filed_alike, kept_left}
use Rattle.book.proofs.Posted.{month_found, performs_post, post_rows_say, refusal_in, state_posted, unbilled_posted}
use Rattle.book.proofs.book.Book.post.Goals as goal

pub returns-in_err-named : goal.returns-in_err-named
returns-in_err-named c meaning =
    is_refused_by meaning (posts c.args.month c.args.place c.args.post) c.args.self.now c.from_residual.result _ c.from_residual.ensures.1 (c.in_err-named.ensures (post_rows c.args.month c.args.place c.args.post (view c.args.self.now)))

pub returns : goal.returns
returns c meaning =
    let m = c.args.month in
    let place = c.args.place in
    let post = c.args.post in
    let book = c.args.self.now in
    let v = view book in
    let found = c.in_ok-named.named in
    let is = c.in_ok-named.ensures in
    let memory = c.post.ensures.memory in
    performs_post meaning (posts m place post)
    (search rules) (search (rules, memory)) (search rules) refl refl refl (search rules)
    m place found.index (month_with_post place post) tt c.post.result c.map_err.result
    (answered (post_refusal m place) _ c.post.result c.map_err.result c.map_err.ensures.cases (λ error refusal made. search rules))
    (not_final_passes m v found is (post_rows m place post v)
    ∙ post_rows_say m place (leb (post_places post (month_at m v).days) place) (not (post_within post))
    ∙ ap (refusal_in m place) (sym (c.post.ensures.result ∙ ap (λ month. post_answer month place post) (month_found book _ m found.index is.0.index))))
    refl refl is.0.index c.post.ensures.posted c.post.ensures.refused

pub invariant_of-self : goal.invariant_of-self
invariant_of-self c =
    let book = c.args.self.now in
    let memory = c.post.ensures.memory in
    kept_left c.post.new.self (search (rules, memory)) (search (rules, memory)) _ _ book.ledgered
    (unbilled_posted book _ _ (filed_alike book _) c.in_ok-named.named.index (month_with_post c.args.place c.args.post) (state_posted c.args.place c.args.post) c.post.result c.post.ensures.posted c.post.ensures.refused)
