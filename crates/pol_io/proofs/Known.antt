-- Known bytes before and after: facts that are kept, weakened, put together and followed through several calls.
use Rattle.std.proofs.Common.{ℕ, ◌+◌, ◌≡◌, List, [], ◌++◌, length, length-append, Bool, true, false, None, Some, Option, append_assoc, append-nil, arith, ap, ◌∙◌, sym, refl}
use Rattle.pol_io.specs.Known.{Between, Counts, joined}
use Rattle.std.specs.Io.KnownBytes.{Appends, Consumes, Keeps}

-- what P says is enough for Q
pub between_weaker : (Strong Weak : List ℕ → List ℕ → Type 0) (old new : Option (List ℕ))
    → ((text rest : List ℕ) → Strong text rest → Weak text rest) → Between Strong old new → Between Weak old new
between_weaker Strong Weak None new step fact = tt
between_weaker Strong Weak (Some text) None step fact = absurd fact
between_weaker Strong Weak (Some text) (Some rest) step fact = step text rest fact

-- two facts at once
pub between_both : (One Other Both : List ℕ → List ℕ → Type 0) (old new : Option (List ℕ))
    → ((text rest : List ℕ) → One text rest → Other text rest → Both text rest)
    → Between One old new → Between Other old new → Between Both old new
between_both One Other Both None new step one other = tt
between_both One Other Both (Some text) None step one other = absurd one
between_both One Other Both (Some text) (Some rest) step one other = step text rest one other

-- one call after another
pub between_trans : (First Then Whole : List ℕ → List ℕ → Type 0) (old middle new : Option (List ℕ))
    → ((text between rest : List ℕ) → First text between → Then between rest → Whole text rest)
    → Between First old middle → Between Then middle new → Between Whole old new
between_trans First Then Whole None middle new step first later = tt
between_trans First Then Whole (Some text) None new step first later = absurd first
between_trans First Then Whole (Some text) (Some between) None step first later = absurd later
between_trans First Then Whole (Some text) (Some between) (Some rest) step first later =
    step text between rest first later

-- P holds of the bytes known before and those known after, of which it says more than that they stayed
pub between_kept : (Fact : List ℕ → List ℕ → Type 0) (old new : Option (List ℕ)) → ((text : List ℕ) → Fact text text)
    → Keeps old new → Between Fact old new
between_kept Fact None new same fact = tt
between_kept Fact (Some text) None same fact = absurd fact
between_kept Fact (Some text) (Some rest) same fact = rw fact (same text)

-- known bytes stay as they are
pub Keeps_refl : (known : Option (List ℕ)) → Keeps known known
Keeps_refl None = tt
Keeps_refl (Some bytes) = refl

-- known bytes that stay, and stay again
pub Keeps_trans : (old middle new : Option (List ℕ)) → Keeps old middle → Keeps middle new → Keeps old new
Keeps_trans None middle new first later = tt
Keeps_trans (Some text) None new first later = absurd first
Keeps_trans (Some text) (Some between) None first later = absurd later
Keeps_trans (Some text) (Some between) (Some rest) first later = later ∙ first

-- bytes that are appended twice
pub Appends_trans : (old middle new : Option (List ℕ)) (more others : List ℕ) → Appends old middle more
    → Appends middle new others → Appends old new (more ++ others)
Appends_trans None middle new more others first later = tt
Appends_trans (Some text) None new more others first later = absurd first
Appends_trans (Some text) (Some between) None more others first later = absurd later
Appends_trans (Some text) (Some between) (Some rest) more others first later =
    rw (later, first) (append_assoc text more others)

-- nothing was appended
pub Appends_none : (old new : Option (List ℕ)) → Keeps old new → Appends old new []
Appends_none None new kept = tt
Appends_none (Some text) None kept = absurd kept
Appends_none (Some text) (Some rest) kept = kept ∙ sym (append-nil text)

-- what was consumed waits behind what waited
pub joined_consumed : (ended : Bool) (old new : Option (List ℕ)) (waited more : List ℕ) → ended ≡ false
    → Consumes old new more → Keeps (joined ended waited old) (joined ended (waited ++ more) new)
joined_consumed true old new waited more unended took = absurd (cc)
joined_consumed false None new waited more unended took = tt
joined_consumed false (Some text) None waited more unended took = absurd took
joined_consumed false (Some text) (Some rest) waited more unended took = rw took (append_assoc waited more rest)

-- counts of what was taken
pub counts_taken : (old new : Option (List ℕ)) (more : List ℕ) (taken size : ℕ) → length more ≡ size
    → Consumes old new more → Between (Counts taken (taken + size)) old new
counts_taken None new more taken size long took = tt
counts_taken (Some text) None more taken size long took = absurd took
counts_taken (Some text) (Some rest) more taken size long took = let sum = ap length took ∙ length-append more rest in
    omega (arith, sum, long)

-- nothing was taken, and the count stays
pub counts_kept : (old new : Option (List ℕ)) (taken : ℕ) → Keeps old new → Between (Counts taken taken) old new
counts_kept old new taken kept = between_kept (Counts taken taken) old new (λ text. refl) kept

-- counts of what was taken twice
pub counts_trans : (old middle new : Option (List ℕ)) (before between after : ℕ)
    → Between (Counts before between) old middle → Between (Counts between after) middle new
    → Between (Counts before after) old new
counts_trans old middle new before between after first later =
    between_trans (Counts before between) (Counts between after) (Counts before after) old middle new
    (λ one two three here there. here ∙ there) first later
