-- Flat members piece by piece: they are what JSON writes of them.
use Rattle.std.proofs.Common.{◌≡◌, ℕ, pos, negsuc, List, [], ◌∷◌, ◌++◌, true, false, Some, refl, sym, ap, ◌∙◌, arith}
use Rattle.std.proofs.Common.{append_assoc, append-nil}
use Rattle.std.proofs.lemmas.Bool.{and_parts}
use Rattle.std.proofs.lemmas.Grind.{common_steps}
use Rattle.std.specs.Fmt.{signed_decimal}
use Rattle.std.specs.List.{list_all}
use Rattle.json.specs.Json as json
use Rattle.json.specs.Token as token
use Rattle.json.specs.Print.{escape, escape_byte, print, print_from, token_text}
use Rattle.json.specs.Run.{is_plain}
use Rattle.json.specs.Tree.{depth, HasNumbers, json_tokens}
use Rattle.json.proofs.Printed.Decimals.{IsNumber-signed_decimal}
use Rattle.json.proofs.Printed.Strings.{escape_byte_plain}
use Rattle.serde_json.specs.Read.{of_json}
use Rattle.serde_json.proofs.Numbers.{number_of-decimal, number_of-negative}
use Rattle.pol_lines.specs.declared.flat.Member.{Member}
use Rattle.pol_lines.specs.declared.key.Key.{Key}
use Rattle.pol_lines.specs.declared.key.Key.TheVariants as key
use Rattle.pol_lines.specs.declared.leaf.Leaf.{Leaf}
use Rattle.pol_lines.specs.declared.leaf.Leaf.TheVariants.{Text, Whole, Bit}
use Rattle.pol_lines.specs.Begins.{Begins}
use Rattle.pol_lines.specs.Flat.{member_piece}
use Rattle.pol_lines.specs.Keys.{key_piece, key_text}
use Rattle.pol_lines.specs.Leaves.{is_leaf_in_range, leaf_data, leaf_piece}

-- ---- keys and values

-- a plain text has no escape
escape_plain : (bytes : List ℕ) → list_all is_plain bytes ≡ true → escape bytes ≡ bytes
escape_plain [] plain = refl
escape_plain (byte ∷ bytes) plain =
    let parts = and_parts (is_plain byte) (list_all is_plain bytes) plain in
    let here : escape_byte byte ≡ byte ∷ [] = escape_byte_plain byte (grind (arith, common_steps, parts.0))
    (grind (arith, common_steps, parts.0)) (grind (arith, common_steps, parts.0)) in
    rw (here, escape_plain bytes parts.1) refl

-- a plain key is printed in quotes, with a colon
pub plain_key : (name : List ℕ) → list_all is_plain name ≡ true
    → token_text (token.key name) ≡ 34 ∷ (name ++ 34 ∷ 58 ∷ [])
plain_key name plain = rw (escape_plain name plain) (ap (λ s. 34 ∷ s) (append_assoc name (34 ∷ []) (58 ∷ [])))

-- a key is printed as its piece
pub key_printed : (name : Key) → token_text (token.key (key_text name)) ≡ key_piece name
unfolding escape_byte
key_printed key.At = refl
key_printed key.Ev = refl
key_printed key.Tag = refl
key_printed key.Name = refl
key_printed key.Value = refl
key_printed key.Service = refl
key_printed key.Batch = refl
key_printed key.By = refl
key_printed key.Ticket = refl
key_printed key.StateCur = refl
key_printed key.CommandEn = refl
key_printed key.CommandOp = refl
key_printed key.Mode = refl
key_printed key.Src = refl
key_printed key.ProcedureCur = refl
key_printed key.Role = refl
key_printed key.TypeName = refl
key_printed key.Version = refl
key_printed key.Step = refl
key_printed key.Procedure = refl
key_printed key.Recipe = refl
key_printed key.Kind = refl
key_printed key.Min = refl
key_printed key.Max = refl
key_printed key.Number = refl
key_printed key.IsDefault = refl
key_printed key.SelfCompleting = refl
key_printed key.Test = refl
key_printed key.Op = refl

-- a value as JSON
abbrev leaf_json : Leaf → json.Json
leaf_json (Text bytes) = json.string bytes.now
leaf_json (Whole z) = json.number (signed_decimal z)
leaf_json (Bit bit) = json.boolean bit

-- it is printed as its piece
leaf_printed : (leaf : Leaf) → is_leaf_in_range leaf ≡ true → leaf_piece leaf ≡ print (json_tokens (leaf_json leaf))
unfolding print_from
leaf_printed (Text bytes) held = rw (escape_plain bytes.now held) (sym (append-nil (34 ∷ (bytes.now ++ 34 ∷ []))))
leaf_printed (Whole z) held = sym (append-nil (signed_decimal z))
leaf_printed (Bit true) held = refl
leaf_printed (Bit false) held = refl

-- it means its data
leaf_meant : (leaf : Leaf) → is_leaf_in_range leaf ≡ true → of_json (leaf_json leaf) ≡ Some (leaf_data leaf)
leaf_meant (Text bytes) held = refl
leaf_meant (Whole (pos n)) held = rw (number_of-decimal n (grind (arith, common_steps, held))) refl
leaf_meant (Whole (negsuc n)) held = rw (number_of-negative n (grind (arith, common_steps, held))) refl
leaf_meant (Bit bit) held = refl

-- its number is a number
leaf_numbers : (leaf : Leaf) → is_leaf_in_range leaf ≡ true → HasNumbers (leaf_json leaf)
leaf_numbers (Text bytes) held = tt
leaf_numbers (Whole (pos n)) held = IsNumber-signed_decimal (pos n) (grind (arith, common_steps, held))
leaf_numbers (Whole (negsuc n)) held = IsNumber-signed_decimal (negsuc n) (grind (arith, common_steps, held))
leaf_numbers (Bit bit) held = tt

-- it holds no other
leaf_shallow : (leaf : Leaf) → depth (leaf_json leaf) ≡ 0
leaf_shallow (Text bytes) = refl
leaf_shallow (Whole z) = refl
leaf_shallow (Bit bit) = refl

-- so a text that begins with the piece begins with the value
pub begins_leaf : (text rest : List ℕ) (leaf : Leaf) → text ≡ leaf_piece leaf ++ rest → is_leaf_in_range leaf ≡ true
    → Begins 0 text (leaf_data leaf) rest
begins_leaf text rest leaf is held = record {
  tree = leaf_json leaf;
  piece = is ∙ ap (λ s. s ++ rest) (leaf_printed leaf held);
  numbers = leaf_numbers leaf held;
  shallow = omega (arith, leaf_shallow leaf);
  means = leaf_meant leaf held;
}

-- ---- members

-- a member is its key and its value
pub member_parts : (member : Member) (text rest : List ℕ) → text ≡ member_piece member ++ rest
    → text ≡ token_text (token.key (key_text member.key)) ++ (leaf_piece member.leaf ++ rest)
member_parts member text rest is =
    is ∙ append_assoc (key_piece member.key) (leaf_piece member.leaf) rest
    ∙ ap (λ s. s ++ (leaf_piece member.leaf ++ rest)) (sym (key_printed member.key))
