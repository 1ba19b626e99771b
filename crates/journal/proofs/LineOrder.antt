-- The figures that a line has are those of the sheet again.
use Rattle.std.proofs.Common.{◌≡◌, ℕ, ◌+◌, ◌≤◌, ◌==◌, ◌++◌, Bool, true, false, if◌then◌else◌, List, [], length, take, drop, ℤ, refl, sym, ap, ◌∙◌, append_assoc, append-nil, length-append, arith}
use Rattle.std.proofs.Math.Seq.{drop-append_seam, take-append_seam}
use Rattle.std.proofs.lemmas.Bool.{eqb-true}
use Rattle.std.proofs.lemmas.List.{drop-drop, drop_all, length-drop, length-take-le, take-append-drop}
use Rattle.tariff.specs.declared.figures.OwnFigures.{OwnFigures}
use Rattle.journal.specs.Drafts.{complete_figures, line_order, sheet_order}

-- what two parts were exchanged to is exchanged back
exchanged : (a b rest : List ℤ) (f c : ℕ) → length a ≡ f → length b ≡ c
    → line_order (record { first = c; count = f }) (b ++ a ++ rest) ≡ a ++ b ++ rest
exchanged a b rest f c first count =
    let line = b ++ a ++ rest in
    let after : drop c line ≡ a ++ rest =
    ap (λ n. drop n line) (sym count) ∙ ap (drop (length b)) (append_assoc b a rest)
    ∙ drop-append_seam b (a ++ rest) in
    let front : take c line ≡ b =
    ap (λ n. take n line) (sym count) ∙ ap (take (length b)) (append_assoc b a rest)
    ∙ take-append_seam b (a ++ rest) in
    let others : drop (c + f) line ≡ rest =
    ap (λ n. drop n line) (omega (arith, length-append b a)) ∙ drop-append_seam (b ++ a) rest in
    let own : take f (a ++ rest) ≡ a = ap (λ n. take n (a ++ rest)) (sym first) ∙ take-append_seam a rest in
    rw (after, front, others, own) refl

-- a line that has all the figures is not completed
complete_line : (own : OwnFigures) (published line : List ℤ) → own.first + own.count ≤ length line
    → length published ≡ length line → complete_figures own published line ≡ line
complete_line own published line within same =
    go (length line == own.count) (eqb-true (length line) own.count)
  where
    go : (test : Bool) → (test ≡ true → length line ≡ own.count)
        → (if test then line ++ take own.first published ++ drop (own.first + own.count) published else line)
        ≡ line
    go false is = refl
    go true is =
        let full = is refl in
        let none : own.first ≡ 0 = omega arith in
        let past : drop (own.first + own.count) published ≡ [] =
        drop_all (own.first + own.count) published (omega arith) in
        ap (λ n. line ++ take n published ++ drop (own.first + own.count) published) none
        ∙ ap (λ rest. line ++ [] ++ rest) past ∙ append-nil (line ++ []) ∙ append-nil line

pub figures_again : (own : OwnFigures) (published figures : List ℤ) → own.first + own.count ≤ length figures
    → length published ≡ length figures
    → sheet_order own (complete_figures own published (line_order own figures)) ≡ figures
figures_again own published figures within same =
    let a = take own.first figures in
    let b = take own.count (drop own.first figures) in
    let rest = drop (own.first + own.count) figures in
    let first : length a ≡ own.first = length-take-le own.first figures (omega arith) in
    let count : length b ≡ own.count =
    length-take-le own.count (drop own.first figures) (omega (arith, length-drop own.first figures)) in
    let whole : a ++ b ++ rest ≡ figures =
    append_assoc a b rest ∙ ap (λ r. a ++ (b ++ r)) (sym (drop-drop own.count own.first figures))
    ∙ ap (λ r. a ++ r) (take-append-drop own.count (drop own.first figures))
    ∙ take-append-drop own.first figures in
    let long : length (line_order own figures) ≡ length figures =
    omega (
      arith,
      length-append (b ++ a) rest,
      length-append b a,
      length-append (a ++ b) rest,
      length-append a b,
      ap length whole,
    ) in
    ap (sheet_order own) (complete_line own published (line_order own figures) (omega arith) (omega arith))
    ∙ exchanged a b rest own.first own.count first count ∙ whole
