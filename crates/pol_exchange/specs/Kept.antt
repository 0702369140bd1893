-- What contracts see of a part that is away for exchange.
use Rattle.std.specs.Prelude.{ℕ, refl}
use Rattle.std.specs.Coded.{Coded, code_by, coded×, coded_ℕ}

-- a part that is kept until it comes back or is replaced, and the ticket under which it left
pub record Kept (T : Type 0) : Type 0 where
  pub ticket : ℕ
  pub part : T

-- a kept part is stored as the pair of its fields
abbrev pub kept_code : {T : Type 0} → Coded T → Coded (Kept T)
kept_code {T} code =
    code_by
    (ℕ × T)
    (coded× coded_ℕ code)
    (λ k. (k.ticket, k.part))
    (λ p. record { ticket = p.0; part = p.1 })
    (λ _. refl)
