-- Objects of one and of two members at the front of a text.
use Rattle.std.proofs.Common.{◌≡◌, ℕ, suc, List, ◌∷◌, ◌++◌, true, sym, ap, ◌∙◌}
use Rattle.std.specs.List.{list_all}
use Rattle.json.specs.Run.{is_plain}
use Rattle.serde_json.specs.Data.{Data, object, member, no_members, put}
use Rattle.pol_lines.specs.Begins.{Begins}
use Rattle.pol_lines.specs.Keys.{quoted}
use Rattle.pol_lines.proofs.Members.{plain_key}
use Rattle.pol_lines.proofs.Printed.{begins_object, opens_more, opens_none}

-- a value at one key, and the closing brace
pub one_member : (deep : ℕ) (text key inner after : List ℕ) (value : Data) → list_all is_plain key ≡ true
    → text ≡ 123 ∷ (quoted key ++ inner) → Begins deep inner value (125 ∷ after)
    → Begins (suc deep) text (object (member key value no_members)) after
one_member deep text key inner after value plain piece begins =
    begins_object deep text key (quoted key ++ inner) inner after no_members value
    (opens_none deep text (quoted key ++ inner) piece)
    (ap (λ s. s ++ inner) (sym (plain_key key plain))) begins

-- a value at one key, a comma, a value at another key, and the closing brace
pub two_members : (deep : ℕ) (text key inner between other behind after : List ℕ) (value held : Data)
    → list_all is_plain key ≡ true → list_all is_plain other ≡ true
    → text ≡ 123 ∷ (quoted key ++ inner) → Begins deep inner value (44 ∷ between)
    → between ≡ quoted other ++ behind → Begins deep behind held (125 ∷ after)
    → Begins (suc deep) text (object (put other held (put key value no_members))) after
two_members deep text key inner between other behind after value held plain plain_other piece begins next ends =
    let first = opens_more deep text key (quoted key ++ inner) inner between no_members value
    (opens_none deep text (quoted key ++ inner) piece)
    (ap (λ s. s ++ inner) (sym (plain_key key plain))) begins in
    begins_object deep text other between behind after (put key value no_members) held first
    (next ∙ ap (λ s. s ++ behind) (sym (plain_key other plain_other))) ends
