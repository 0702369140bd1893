use Rattle.std.proofs.Common.{◌≡◌, ℕ, List, [], ◌∷◌, sym, subst, arith, length, ◌<◌, false, true}
use Rattle.std.specs.declared.cmp.Ordering.TheVariants.{Less}
use Rattle.std.specs.List.{All, AllByRecursion}
use Rattle.std.specs.List.Sorted.{IsStrictlySortedBy}
use Rattle.std.proofs.lemmas.Bool.{false≢true}
use Rattle.std.proofs.lemmas.List.Elements.{recursion_from_All}
use Rattle.pol_match.specs.Bindings.{AreInOrder, name_cmp, tags_in}
use Rattle.pol_match.specs.Candidates.{plain_candidates}
use Rattle.pol_match.specs.declared.candidate.Candidate.{Candidate}
use Rattle.part_examples.proofs.finder.+are_in_order.Goals as goal

-- a tag that comes before those of all these comes before each of their tags
tags_later : (tag : List ℕ) (others : List Candidate)
    → AllByRecursion (λ other. name_cmp tag other.tag ≡ Less) others
    → AllByRecursion (λ other. name_cmp tag other ≡ Less) (tags_in (plain_candidates others))
tags_later tag [] later = tt
tags_later tag (other ∷ others) later = (later.0, tags_later tag others later.1)

-- none are in order
none_in_order : (candidates : List Candidate) → (0 < length candidates → false ≡ true)
    → AreInOrder (plain_candidates candidates)
unfolding IsStrictlySortedBy
none_in_order [] none = tt
none_in_order (first ∷ others) none = absurd (false≢true (none (omega arith)))

-- one that comes before all others, which are in order
more_in_order : (candidates others : List Candidate) (first : Candidate) → candidates ≡ first ∷ others
    → All (λ other. name_cmp first.tag other.tag ≡ Less) others → AreInOrder (plain_candidates others)
    → AreInOrder (plain_candidates candidates)
unfolding IsStrictlySortedBy
more_in_order candidates others first same later rest =
    subst (λ (each : List Candidate). AreInOrder (plain_candidates each)) (sym same)
    (tags_later first.tag others (recursion_from_All (λ other. name_cmp first.tag other.tag ≡ Less) others later), rest)

pub returns-in-None : goal.returns-in-None
returns-in-None t c = λ ok. none_in_order c.args.candidates.now c.in-None.ensures.variant.1

pub returns-then-is_before : goal.returns-then-is_before
returns-then-is_before t c = λ ok.
    more_in_order c.args.candidates.now c.in-Some.others.now c.in-Some.first.now c.in-Some.ensures.cases.0
    (c.is_before.ensures c.if-is_before.true) (c.are_in_order.ensures ok)
