-- A draft and its figures make each other.
use Rattle.std.proofs.Common.{◌≡◌, ℕ, zero, suc, ◌==◌, List, [], ◌∷◌, length, if◌then◌else◌, get_or, ℤ, pos, Option, Some, None, ◌↔◌, refl, sym, ap, ◌∙◌}
use Rattle.std.specs.Option.{IsSome, option_map}
use Rattle.std.proofs.lemmas.Bool.{cond_both, eqb-true, eq-eqb, cond-true}

-- so many values, each by its place
abbrev pub places : ℕ → (ℕ → ℤ) → List ℤ
places zero value = []
places (suc n) value = value 0 ∷ places n (λ k. value (suc k))

abbrev pub places_of : ℕ → List ℤ → List ℤ
places_of count values = places count (λ k. get_or values k (pos 0))

all_places : (values : List ℤ) → places_of (length values) values ≡ values
all_places [] = refl
all_places (value ∷ values) = ap (λ rest. value ∷ rest) (all_places values)

-- a draft, where so many values are given
abbrev pub counted : {D : Type 0} → ℕ → List ℤ → D → Option D
counted count values draft = if length values == count then Some draft else None

-- a draft of values that are `count` has those values
module _ {D : Type 0} (count : ℕ) (draft : List ℤ → D) (values : D → List ℤ)
    (given : (vs : List ℤ) → values (draft vs) ≡ places_of count vs) where
  has_values : (vs : List ℤ) (d : D) → counted count vs (draft vs) ≡ Some d → values d ≡ vs
  has_values vs d made =
      let Of : Option D → Type 0 = λ r. r ≡ Some d → values d ≡ vs in
      cond_both (length vs == count) (Some (draft vs)) None Of
      (λ many is. let same : draft vs ≡ d = cc in
      sym (ap values same) ∙ given vs ∙ sym (ap (λ n. places_of n vs) (eqb-true _ _ many)) ∙ all_places vs)
      (λ _ is. cc)
      made

module _ {D : Type 0} (count : ℕ) (draft : List ℤ → D) (values : D → List ℤ)
    (long : (d : D) → length (values d) ≡ count) (back : (d : D) → draft (values d) ≡ d)
    (given : (vs : List ℤ) → values (draft vs) ≡ places_of count vs) where
  is_made : (vs : List ℤ) (d : D) → values d ≡ vs → counted count vs (draft vs) ≡ Some d
  is_made vs d are =
      cond-true (length vs == count) (Some (draft vs)) None (eq-eqb _ _ (sym (ap length are) ∙ long d)) ∙ ap
      Some (sym (ap draft are) ∙ back d)

  pub inverse : (vs : List ℤ) (d : D) → (counted count vs (draft vs) ≡ Some d) ↔ (values d ≡ vs)
  inverse vs d = (has_values count draft values given vs d, is_made vs d)

-- a draft of a kind chosen at run time, made by `of` of the draft of its own kind
module _ {D C : Type 0} (of : D → C) (count : ℕ) (draft : List ℤ → D) where
  made_of : (vs : List ℤ) (c : C) → option_map of (counted count vs (draft vs)) ≡ Some c →
      counted count vs (of (draft vs)) ≡ Some c
  made_of vs c made =
      cond_both (length vs == count) (Some (draft vs)) None
      (λ r. option_map of r ≡ Some c → counted count vs (of (draft vs)) ≡ Some c)
      (λ many is. cond-true (length vs == count) (Some (of (draft vs))) None many ∙ is)
      (λ _ is. cc)
      made

  pub given_back : {K : Type 0} (kind_of : C → K) (kind : K) (values : C → List ℤ) →
      ((d : D) → kind_of (of d) ≡ kind) → ((vs : List ℤ) → values (of (draft vs)) ≡ places_of count vs) →
      (vs : List ℤ) (c : C) → option_map of (counted count vs (draft vs)) ≡ Some c →
      (kind_of c ≡ kind) × (values c ≡ vs)
  given_back kind_of kind values kinds given vs c made = (
    cond_both (length vs == count) (Some (draft vs)) None (λ r. option_map of r ≡ Some c → kind_of c ≡ kind)
        (λ _ is. let same : of (draft vs) ≡ c = cc in sym (ap kind_of same) ∙ kinds (draft vs))
        (λ _ is. cc)
        made,
    has_values count (λ vs. of (draft vs)) values given vs c (made_of vs c made),
  )

  pub complete : (vs : List ℤ) →
      IsSome (option_map of (counted count vs (draft vs))) ↔ (length vs ≡ count)
  complete vs = (
    λ some. cond_both (length vs == count) (Some (draft vs)) None
        (λ r. IsSome (option_map of r) → length vs ≡ count) (λ many _. eqb-true _ _ many) (λ _ is. cc) some,
    λ many. rw (cond-true (length vs == count) (Some (draft vs)) None (eq-eqb _ _ many)) refl,
  )
