-- The modules that are there, where modules are taken out: those that are not taken out.
use Rattle.std.proofs.Common.{◌≡◌, ℕ, ◌≤◌, Bool, true, false, cond, not, List, [], ◌∷◌, length, refl, ◌∙◌, sym}
use Rattle.std.specs.Prelude.{filter}
use Rattle.std.specs.Str.{bytes_eq}
use Rattle.std.proofs.lemmas.Bool.{and_from, both_ways, not-true, true_from_ne_false}
use Rattle.mtp_codes.specs.Names.{is_among}
use Rattle.mtp_codes.proofs.Names.{same_true, same_refl}
use Rattle.pol_events.specs.Events.{PlainEvent, plug, unplug, PlainEntry}
use Rattle.pol_events.specs.declared.answer.Answer.{Answer}
use Rattle.pol_history.specs.Looking.{History, subject, is_accepted, is_module}
use Rattle.pol_history.specs.Modules.{tags_without, present_after, present_tags}
use Rattle.pol_history.proofs.Accepted.{paired}
use Rattle.pol_history.proofs.Filters.{filter_kept, filter_filter, all_of, length_filter}
use Rattle.pol_removal.specs.Removal.{is_of, stays}
use Rattle.pol_removal.proofs.Sparing.{of_module_stays, stays_parts}

-- the tags that aren't taken out
abbrev outside : List (List ℕ) → List (List ℕ) → List (List ℕ)
outside tags present = filter (λ tag. not (is_among tags tag)) present

-- a tag that is taken out isn't one that stays
another_tag : (tags : List (List ℕ)) (tag other : List ℕ) → is_among tags tag ≡ true → not (is_among tags other) ≡ true
    → not (bytes_eq other tag) ≡ true
another_tag tags tag other inside out = go (bytes_eq other tag) refl
  where
    go : (same : Bool) → bytes_eq other tag ≡ same → not same ≡ true
    go true is = absurd (both_ways (is_among tags tag) (rw (same_true other tag is) at
        (not-true (is_among tags other) out)) inside)
    go false is = refl

-- to leave out a tag that is taken out anyway changes nothing of the rest
outside_without : (tags present : List (List ℕ)) (tag : List ℕ) → is_among tags tag ≡ true
    → outside tags (tags_without tag present) ≡ outside tags present
outside_without tags present tag inside =
    filter_kept (λ other. not (is_among tags other)) (λ other. not (bytes_eq other tag)) present
    (all_of (λ other. not (is_among tags other) ≡ true → not (bytes_eq other tag) ≡ true)
    (λ other. another_tag tags tag other inside) present)

-- an event that stays changes alike which of these are there
present_stays : (tags bound present : List (List ℕ)) (event : PlainEvent) (accepted : Bool)
    → is_of tags bound (subject event) ≡ false →
    present_after event accepted (outside tags present) ≡ outside tags (present_after event accepted present)
present_stays tags bound present (plug at tag description) true out =
    rw (out, filter_filter (λ other. not (bytes_eq other tag)) (λ other. not (is_among tags other)) present)
present_stays tags bound present (unplug at tag) true out = filter_filter (λ other. not (bytes_eq other tag))
    (λ other. not (is_among tags other)) present
present_stays tags bound present _ _ out = refl

-- an accepted entry that doesn't stay is of a module that is taken out
inside_gone : (tags bound : List (List ℕ)) (tag : List ℕ) (entry : PlainEntry)
    → is_module tag (subject entry.event) ≡ true →
    is_accepted entry.answer ≡ true → stays tags bound entry ≡ false → is_among tags tag ≡ true
inside_gone tags bound tag entry of_it accepted gone =
    true_from_ne_false (is_among tags tag)
    (λ outside. both_ways (stays tags bound entry) gone
    (of_module_stays tags bound tag outside entry (and_from (is_module tag (subject entry.event))
    (is_accepted entry.answer) of_it accepted)))

-- one that goes changes nothing among them
present_goes : (tags bound present : List (List ℕ)) (event : PlainEvent) (answer : Answer) (accepted : Bool)
    → is_accepted answer ≡ accepted →
    stays tags bound (paired event answer) ≡ false → outside tags present
    ≡ outside tags (present_after event accepted present)
present_goes tags bound present (plug at tag description) answer true is gone =
    let inside = inside_gone tags bound tag (paired (plug at tag description) answer) (same_refl tag) is gone in
    rw (inside, outside_without tags present tag inside)
present_goes tags bound present (unplug at tag) answer true is gone =
    sym (outside_without tags present tag (inside_gone tags bound tag (paired (unplug at tag) answer)
    (same_refl tag) is gone))
present_goes tags bound present _ answer _ is gone = refl

-- one entry more, whether or not it stays, keeps the modules that are there alike
present_step : (tags bound present : List (List ℕ)) (entry : PlainEntry) (less : History) (stay : Bool)
    → stays tags bound entry ≡ stay →
    present_tags less ≡ outside tags present →
    present_tags (cond stay (entry ∷ less) less) ≡ outside tags
    (present_after entry.event (is_accepted entry.answer) present)
present_step tags bound present entry less true is same =
    rw same (present_stays tags bound present entry.event (is_accepted entry.answer)
    (stays_parts tags bound entry is).0)
present_step tags bound present entry less false is same = same
    ∙ present_goes tags bound present entry.event entry.answer (is_accepted entry.answer) refl is

-- the modules that are there after what stays are those that aren't taken out
pub present_without : (tags bound : List (List ℕ)) (history : History)
    → present_tags (filter (stays tags bound) history) ≡ outside tags (present_tags history)
present_without tags bound [] = refl
present_without tags bound (entry ∷ history) =
    present_step tags bound (present_tags history) entry (filter (stays tags bound) history)
    (stays tags bound entry) refl (present_without tags bound history)

-- so they are no more
pub fewer_present : (tags bound : List (List ℕ)) (history : History)
    → length (present_tags (filter (stays tags bound) history)) ≤ length (present_tags history)
fewer_present tags bound history = rw (present_without tags bound history)
    (length_filter (λ tag. not (is_among tags tag)) (present_tags history))
