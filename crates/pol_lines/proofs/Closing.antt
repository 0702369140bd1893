-- Texts that are no JSON by their first or their last byte.
use Rattle.std.proofs.Common.{◌≡◌, ℕ, zero, suc, ◌+◌, ◌-◌, List, [], ◌∷◌, ◌++◌, length, take, drop, Bool, true, false}
use Rattle.std.proofs.Common.{not, cond, ◌==◌, ◌||◌, Option, Some, None, option_and_then, inl, inr, refl, sym, ap, ◌∙◌}
use Rattle.std.proofs.Common.{slice_index_or, subst, ◌≤◌, arith}
use Rattle.std.proofs.lemmas.Bool.{cond-false, eqb-true, false_from_ne_true, false≢true, or_cases, or_parts}
use Rattle.std.proofs.lemmas.Bool.{true≢false}
use Rattle.std.proofs.lemmas.List.{take_all, take_more}
use Rattle.std.specs.Prelude.{⊤}
use Rattle.std.specs.Char.{is_ascii_digit}
use Rattle.std.specs.List.{prefix_len}
use Rattle.json.specs.Align.{is_blank}
use Rattle.json.specs.Json.{Json, array, object, Items, item, Members, member, Parse, parse_map}
use Rattle.json.specs.Json.{after_end_array, read_key, items_step, members_step, items, members, value_with, value}
use Rattle.json.specs.Json.{if_last}
use Rattle.json.specs.Lex.{Lexeme, token, comma, colon, Class, quote, backslash, operator, space, other, class}
use Rattle.json.specs.Lex.{operator_lexeme, string_token, Mode, between, in_word, in_string, in_escape, lex_byte, lex}
use Rattle.json.specs.Lex.{Place, fresh, after_value, after_comma, after_key, begins_colon, may_begin, may_close}
use Rattle.json.specs.Lex.{if_allowed, place_token, punctuate, tokens}
use Rattle.json.specs.Reads as reads
use Rattle.json.specs.Text.{content, plain}
use Rattle.json.specs.Token.{Token, begin_object, end_object, begin_array, end_array, key, string, number, boolean}
use Rattle.json.specs.Token.{null, bad}
use Rattle.json.specs.Word.{is_operator, is_space, head, ends_word, word, number_before}
use Rattle.json.specs.Word.{after_digits, after_exponent, after_fraction, after_number, after_whole}
use Rattle.json.proofs.Grammar.{left, left-parse_map, closed_array, read_key_is, value_is}
use Rattle.serde_json.specs.Read.{max_depth, of_json, read}
use Rattle.pol_lines.specs.Ends.{begins_value, is_white, may_end, opens}

-- ---- the last lexeme

-- the token is a closing brace or bracket
abbrev closing : Token → Bool
closing end_object = true
closing end_array = true
closing t = false

-- the lexeme is a closing brace or bracket
abbrev closes : Lexeme → Bool
closes (token t) = closing t
closes l = false

-- the last lexeme closes nothing, where the flag says so of the one before these
abbrev lexemes_open : Bool → List Lexeme → Bool
lexemes_open still [] = still
lexemes_open still (l ∷ ls) = lexemes_open (not (closes l)) ls

-- inside a word or a string the lexeme before, which is that word or string, closes nothing
abbrev fits : Mode → Bool → Bool
fits between still = true
fits m still = still

-- a string closes nothing
string_open : (found : Option (List ℕ)) → not (closing (string_token found)) ≡ true
string_open None = refl
string_open (Some s) = refl

-- where neither of two tokens closes anything, the one that is taken closes nothing
either_open : (b : Bool) (x y : Token) → not (closing x) ≡ true → not (closing y) ≡ true
    → not (closing (cond b x y)) ≡ true
either_open true x y h k = h
either_open false x y h k = k

-- a number closes nothing
number_open : (text : List ℕ) (rest : Option (List ℕ)) → not (closing (number_before text rest)) ≡ true
number_open text None = refl
number_open text (Some rest) =
    either_open (ends_word rest) (number (take (length text - length rest) text)) bad refl refl

-- a word closes nothing
word_open : (text : List ℕ) → not (closing (word text)) ≡ true
unfolding word
word_open text =
    either_open (head text == 116) _ _ (either_open _ (boolean true) bad refl refl)
    (either_open (head text == 102) _ _ (either_open _ (boolean false) bad refl refl)
    (either_open (head text == 110) _ _ (either_open _ null bad refl refl) (number_open text (after_number text))))

-- what one byte adds to the lexemes of those after it
one_more : (m : Mode) (c : Class) (x : ℕ) (xs : List ℕ) (still : Bool) (k : Mode → List Lexeme) → fits m still ≡ true
    → ((next : Mode) (after : Bool) → fits next after ≡ true → lexemes_open after (k next) ≡ true)
    → lexemes_open still (lex_byte m c x xs k) ≡ true
one_more between quote x xs still k h go = go in_string _ (string_open (content plain xs))
one_more between backslash x xs still k h go = go in_word true refl
one_more between operator x xs still k h go = go between _ refl
one_more between space x xs still k h go = go between still refl
one_more between other x xs still k h go = go in_word _ (word_open (x ∷ xs))
one_more in_word operator x xs still k h go = go between _ refl
one_more in_word space x xs still k h go = go between still refl
one_more in_word c x xs still k h go = go in_word still h
one_more in_string quote x xs still k h go = go between still refl
one_more in_string backslash x xs still k h go = go in_escape still h
one_more in_string c x xs still k h go = go in_string still h
one_more in_escape c x xs still k h go = go in_string still h

-- what the last byte adds, which is no space and as a mark closes nothing
last_byte : (m : Mode) (c : Class) (x : ℕ) (still : Bool) → fits m still ≡ true → is_blank c ≡ false
    → not (closes (operator_lexeme x)) ≡ true → lexemes_open still (lex_byte m c x [] (λ next. [])) ≡ true
last_byte between quote x still h solid mark = string_open (content plain [])
last_byte between backslash x still h solid mark = refl
last_byte between operator x still h solid mark = mark
last_byte between space x still h solid mark = absurd (true≢false solid)
last_byte between other x still h solid mark = word_open (x ∷ [])
last_byte in_word operator x still h solid mark = mark
last_byte in_word c x still h solid mark = h
last_byte in_string quote x still h solid mark = h
last_byte in_string c x still h solid mark = h
last_byte in_escape c x still h solid mark = h

-- the class of a byte that is no space
solid_class : (q b o s : Bool) → s ≡ false
    → is_blank (cond q quote (cond b backslash (cond o operator (cond s space other)))) ≡ false
solid_class true b o s h = refl
solid_class false true o s h = refl
solid_class false false true s h = refl
solid_class false false false true h = h
solid_class false false false false h = refl

-- a mark that is neither closing brace nor closing bracket closes nothing
open_mark : (a b c d e : Bool) → b ≡ false → d ≡ false
    → not (closes (cond a (token begin_object) (cond b (token end_object) (cond c (token begin_array)
    (cond d (token end_array) (cond e comma colon)))))) ≡ true
open_mark true b c d e f g = refl
open_mark false true c d e f g = absurd (true≢false f)
open_mark false false true d e f g = refl
open_mark false false false true e f g = absurd (true≢false g)
open_mark false false false false true f g = refl
open_mark false false false false false f g = refl

-- the last lexeme of a text whose last byte is neither closing nor space closes nothing
lexed_open : (m : Mode) (xs : List ℕ) (last : ℕ) (still : Bool) → fits m still ≡ true → may_end last ≡ false
    → lexemes_open still (lex m (xs ++ last ∷ [])) ≡ true
unfolding lex
lexed_open m [] last still h ends =
    let parts = or_parts (last == 125 || last == 93) (is_white last) ends in
    let brackets = or_parts (last == 125) (last == 93) parts.0 in
    last_byte m (class last) last still h
    (solid_class (last == 34) (last == 92) (is_operator last) (is_space last) parts.1)
    (open_mark (last == 123) (last == 125) (last == 91) (last == 93) (last == 44) brackets.0 brackets.1)
lexed_open m (x ∷ xs) last still h ends =
    one_more m (class x) x (xs ++ last ∷ []) still (λ next. lex next (xs ++ last ∷ [])) h
    (λ next after fit. lexed_open next xs last after fit ends)

-- ---- the last token

-- the last token closes nothing, where the flag says so of the one before these
abbrev tokens_open : Bool → List Token → Bool
tokens_open still [] = still
tokens_open still (t ∷ ts) = tokens_open (not (closing t)) ts

-- what the flag of the lexemes before a place says of the flag of their tokens
abbrev Agree : Place → Bool → Bool → Type 0
Agree fresh lexeme found = lexeme ≡ true → found ≡ true
Agree after_value lexeme found = lexeme ≡ true → found ≡ true
Agree after_comma lexeme found = ⊤
Agree after_key lexeme found = found ≡ true

-- a token that stands where it may goes on, and one that does not is the last, and bad
allowed_open : (ok : Bool) (t : Token) (k : Place → List Token) (next : Place) (still : Bool)
    → tokens_open (not (closing t)) (k next) ≡ true → tokens_open still (if_allowed ok t k next) ≡ true
allowed_open true t k next still h = h
allowed_open false t k next still h = refl

-- what one token adds to those after it
placed : (p : Place) (t : Token) (before_colon : Bool) (k : Place → List Token) (still : Bool)
    → ((next : Place) (after : Bool) → Agree next (not (closing t)) after → tokens_open after (k next) ≡ true)
    → tokens_open still (place_token p t before_colon k) ≡ true
placed p begin_object before_colon k still go =
    allowed_open (may_begin p) begin_object k fresh still (go fresh true (λ e. e))
placed p end_object before_colon k still go =
    allowed_open (may_close p) end_object k after_value still (go after_value false (λ e. e))
placed p begin_array before_colon k still go =
    allowed_open (may_begin p) begin_array k fresh still (go fresh true (λ e. e))
placed p end_array before_colon k still go =
    allowed_open (may_close p) end_array k after_value still (go after_value false (λ e. e))
placed p (string s) true k still go = allowed_open (may_begin p) (key s) k after_key still (go after_key true refl)
placed p (string s) false k still go =
    allowed_open (may_begin p) (string s) k after_value still (go after_value true (λ e. e))
placed p (number s) before_colon k still go =
    allowed_open (may_begin p) (number s) k after_value still (go after_value true (λ e. e))
placed p (boolean b) before_colon k still go =
    allowed_open (may_begin p) (boolean b) k after_value still (go after_value true (λ e. e))
placed p null before_colon k still go =
    allowed_open (may_begin p) null k after_value still (go after_value true (λ e. e))
placed p t before_colon k still go = refl

-- tokens end as their lexemes do, or with a bad one
punctuated : (p : Place) (ls : List Lexeme) (lexeme found : Bool) → Agree p lexeme found
    → lexemes_open lexeme ls ≡ true → tokens_open found (punctuate p ls) ≡ true
unfolding punctuate
punctuated fresh [] lexeme found agree h = agree h
punctuated after_value [] lexeme found agree h = agree h
punctuated p (token t ∷ ls) lexeme found agree h =
    placed p t (begins_colon ls) (λ next. punctuate next ls) found
    (λ next after fit. punctuated next ls (not (closing t)) after fit h)
punctuated after_value (comma ∷ ls) lexeme found agree h = punctuated after_comma ls true found tt h
punctuated after_key (colon ∷ ls) lexeme found agree h = punctuated fresh ls true found (λ e. agree) h
punctuated p ls lexeme found agree h = refl

-- ---- the last token that a reader takes

-- the last token that is taken closes
abbrev Closes : {A : Type 0} → Parse A → Type 0
Closes {A} p = (ts r : List Token) → left (p ts) ≡ Some r → (still : Bool) → tokens_open still ts ≡ tokens_open false r

-- of a value that opens the last token closes, and any other value is one token, which closes nothing
abbrev Passes : Parse Json → Type 0
Passes p = (ts r : List Token) → left (p ts) ≡ Some r → (still : Bool)
    → tokens_open still ts ≡ tokens_open (not (reads.opens ts)) r

-- nothing was found
not_found : {P : Type 0} (r : List Token) → None ≡ Some r → P
not_found r e = absurd (cc)

-- the rest that was found is the one that is left
same_rest : (still : Bool) (ts r : List Token) → Some ts ≡ Some r → tokens_open still ts ≡ tokens_open still r
same_rest still ts r e = let same : ts ≡ r = cc in ap (tokens_open still) same

-- a value and, after it, more of which the last token closes
then_closes : {B : Type 0} (f : Json → B → B) (more : Parse B) (o : Option (Json × List Token)) (now : Bool)
    (r : List Token) → Closes more
    → ((x : List Token) → left o ≡ Some x → (still : Bool) × (now ≡ tokens_open still x))
    → left (option_and_then (λ q. parse_map (f q.0) (more q.1)) o) ≡ Some r → now ≡ tokens_open false r
then_closes f more None now r closes first e = not_found r e
then_closes f more (Some q) now r closes first e =
    let was = first q.1 refl in was.1 ∙ closes q.1 r (sym (left-parse_map (f q.0) (more q.1)) ∙ e) was.0

module _ (p : Parse Json) (passes : Passes p) where
  -- the closing bracket, or an item and more of them
  item_turn : (more : Parse Items) (ts r : List Token) (o : Option (List Token)) (still : Bool) → Closes more
      → after_end_array ts ≡ o → left (items_step p more ts o) ≡ Some r → tokens_open still ts ≡ tokens_open false r
  item_turn more ts r (Some x) still again e f =
      ap (tokens_open still) (closed_array ts x e) ∙ same_rest false x r f
  item_turn more ts r None still again e f =
      then_closes item more (p ts) (tokens_open still ts) r again
      (λ x found. (not (reads.opens ts), passes ts x found still)) f

  -- items end with a closing bracket
  closes_items : (n : ℕ) → Closes (items p n)
  unfolding items
  closes_items zero ts r e still = not_found r e
  closes_items (suc n) ts r e still = item_turn (items p n) ts r (after_end_array ts) still (closes_items n) refl e

  -- the closing brace, or a key with its value and more members
  member_turn : (more : Parse Members) (ts r : List Token) (o : Option (Option (List ℕ) × List Token)) (still : Bool)
      → Closes more → read_key ts ≡ o
      → left (option_and_then (λ q. members_step p more q.0 q.1) o) ≡ Some r → tokens_open still ts ≡ tokens_open false r
  member_turn more ts r None still again e f = not_found r f
  member_turn more ts r (Some (None, s)) still again e f =
      ap (tokens_open still) (read_key_is ts None s e) ∙ same_rest false s r f
  member_turn more ts r (Some (Some k, s)) still again e f =
      ap (tokens_open still) (read_key_is ts (Some k) s e)
      ∙ then_closes (member k) more (p s) (tokens_open true s) r again
      (λ x found. (not (reads.opens s), passes s x found true)) f

  -- members end with a closing brace
  closes_members : (n : ℕ) → Closes (members p n)
  unfolding members
  closes_members zero ts r e still = not_found r e
  closes_members (suc n) ts r e still = member_turn (members p n) ts r (read_key ts) still (closes_members n) refl e

-- a value whose items and members end with a closing token
passes_with : (a : Parse Items) (o : Parse Members) → Closes a → Closes o → Passes (value_with a o)
passes_with a o p q (begin_object ∷ ts) r e still = q ts r (sym (left-parse_map object (o ts)) ∙ e) true
passes_with a o p q (begin_array ∷ ts) r e still = p ts r (sym (left-parse_map array (a ts)) ∙ e) true
passes_with a o p q (string s ∷ ts) r e still = same_rest true ts r e
passes_with a o p q (number s ∷ ts) r e still = same_rest true ts r e
passes_with a o p q (boolean b ∷ ts) r e still = same_rest true ts r e
passes_with a o p q (null ∷ ts) r e still = same_rest true ts r e
passes_with a o p q ts r e still = not_found r e

-- a value at any depth
value_passes : (depth : ℕ) → Passes (value depth)
unfolding value
value_passes zero =
    passes_with (λ ts. None) (λ ts. None) (λ ts r e still. not_found r e) (λ ts r e still. not_found r e)
value_passes (suc d) =
    passes_with (λ ts. items (value d) (length ts) ts) (λ ts. members (value d) (length ts) ts)
    (λ ts. closes_items (value d) (value_passes d) (length ts) ts)
    (λ ts. closes_members (value d) (value_passes d) (length ts) ts)

-- ---- cut texts

-- no value is the whole where none that is read leaves a rest that still closes
none_last : (o : Option (Json × List Token)) → ((r : List Token) → left o ≡ Some r → tokens_open false r ≡ true)
    → option_and_then (λ p. if_last p.0 p.1) o ≡ None
none_last None h = refl
none_last (Some (j, [])) h = absurd (false≢true (h [] refl))
none_last (Some (j, t ∷ ts)) h = refl

-- the tokens of a text that opens begin with a token that opens
opens_first : (first : ℕ) (rest : List ℕ) → opens first ≡ true → reads.opens (tokens (first ∷ rest)) ≡ true
unfolding lex punctuate
opens_first first rest h = elim (or_cases (first == 123) (first == 91) h) [
  | inl is ↦ subst (λ x. reads.opens (tokens (x ∷ rest)) ≡ true) (sym (eqb-true first 123 is)) refl
  | inr is ↦ subst (λ x. reads.opens (tokens (x ∷ rest)) ≡ true) (sym (eqb-true first 91 is)) refl
]

-- tokens of which the first opens and the last does not close are no value
no_value : (ts : List Token) → reads.opens ts ≡ true → tokens_open false ts ≡ true
    → option_and_then (λ p. if_last p.0 p.1) (value max_depth ts) ≡ None
no_value ts opening still =
    none_last (value max_depth ts)
    (λ r found. ap (λ b. tokens_open (not b) r) (sym opening) ∙ sym (value_passes max_depth ts r found false) ∙ still)

-- a text that begins an object or a list and ends with neither closing bracket nor space is no JSON: it was cut off
pub cut_text : (first last : ℕ) (middle : List ℕ) → opens first ≡ true → may_end last ≡ false
    → read (first ∷ (middle ++ last ∷ [])) ≡ None
cut_text first last middle opening ends =
    let text = first ∷ (middle ++ last ∷ []) in
    let still = punctuated fresh (lex between text) false false (λ e. e)
    (lexed_open between (first ∷ middle) last false refl ends) in
    ap (option_and_then of_json) (no_value (tokens text) (opens_first first (middle ++ last ∷ []) opening) still)

-- ---- texts that begin with no value

-- a value may begin with the first token
abbrev starts : List Token → Bool
starts (begin_object ∷ ts) = true
starts (begin_array ∷ ts) = true
starts (string s ∷ ts) = true
starts (number s ∷ ts) = true
starts (boolean b ∷ ts) = true
starts (null ∷ ts) = true
starts ts = false

-- where none may begin, none is read
none_with : (a : Parse Items) (o : Parse Members) (ts : List Token) → starts ts ≡ false → value_with a o ts ≡ None
none_with a o (begin_object ∷ ts) h = absurd (true≢false h)
none_with a o (begin_array ∷ ts) h = absurd (true≢false h)
none_with a o (string s ∷ ts) h = absurd (true≢false h)
none_with a o (number s ∷ ts) h = absurd (true≢false h)
none_with a o (boolean b ∷ ts) h = absurd (true≢false h)
none_with a o (null ∷ ts) h = absurd (true≢false h)
none_with a o ts h = refl

-- a text with such tokens is no JSON
none_read : (text : List ℕ) → starts (tokens text) ≡ false → read text ≡ None
none_read text h =
    ap (λ o. option_and_then of_json (option_and_then (λ p. if_last p.0 p.1) o))
    (value_is max_depth (tokens text) ∙ none_with _ _ (tokens text) h)

-- the class is that of a quote or of space
abbrev quote_or_space : Class → Bool
quote_or_space quote = true
quote_or_space space = true
quote_or_space c = false

-- the class of a byte that is neither quote nor space
no_start_class : (q b o s : Bool) → q ≡ false → s ≡ false
    → quote_or_space (cond q quote (cond b backslash (cond o operator (cond s space other)))) ≡ false
no_start_class true b o s h k = absurd (true≢false h)
no_start_class false true o s h k = refl
no_start_class false false true s h k = refl
no_start_class false false false true h k = absurd (true≢false k)
no_start_class false false false false h k = refl

-- a mark that opens nothing begins no value
no_start_mark : (a b c d e : Bool) (ls : List Lexeme) → a ≡ false → c ≡ false
    → starts (punctuate fresh (cond a (token begin_object) (cond b (token end_object) (cond c (token begin_array)
    (cond d (token end_array) (cond e comma colon)))) ∷ ls)) ≡ false
unfolding punctuate
no_start_mark true b c d e ls h k = absurd (true≢false h)
no_start_mark false true c d e ls h k = refl
no_start_mark false false true d e ls h k = absurd (true≢false k)
no_start_mark false false false true e ls h k = refl
no_start_mark false false false false true ls h k = refl
no_start_mark false false false false false ls h k = refl

-- a byte that begins no value gives a token with which none may begin
no_start_byte : (c : Class) (x : ℕ) (xs : List ℕ) (k : Mode → List Lexeme) → quote_or_space c ≡ false
    → ((ls : List Lexeme) → starts (punctuate fresh (operator_lexeme x ∷ ls)) ≡ false) → word (x ∷ xs) ≡ bad
    → starts (punctuate fresh (lex_byte between c x xs k)) ≡ false
unfolding punctuate
no_start_byte quote x xs k h mark other_word = absurd (true≢false h)
no_start_byte backslash x xs k h mark other_word = refl
no_start_byte operator x xs k h mark other_word = mark (k between)
no_start_byte space x xs k h mark other_word = absurd (true≢false h)
no_start_byte other x xs k h mark other_word =
    ap (λ t. starts (punctuate fresh (token t ∷ k in_word))) other_word

-- a byte that is no digit is no zero
no_zero : (x : ℕ) → is_ascii_digit x ≡ false → (x == 48) ≡ false
no_zero x h = false_from_ne_true (x == 48) (λ is. true≢false (sym (ap is_ascii_digit (eqb-true x 48 is)) ∙ h))

-- no whole number begins with such a byte
no_whole : (x : ℕ) (xs : List ℕ) → is_ascii_digit x ≡ false → after_whole (x ∷ xs) ≡ None
no_whole x xs h =
    cond-false (x == 48) (Some xs) (after_digits (x ∷ xs)) (no_zero x h)
    ∙ ap (λ n. cond (n == 0) None (Some (drop n (x ∷ xs))))
    (cond-false (is_ascii_digit x) (1 + prefix_len is_ascii_digit xs) 0 h)

-- no number begins with a byte that is neither minus nor digit
no_number : (x : ℕ) (xs : List ℕ) → (x == 45) ≡ false → is_ascii_digit x ≡ false → after_number (x ∷ xs) ≡ None
unfolding after_number
no_number x xs h k =
    ap (λ t. option_and_then after_exponent (option_and_then after_fraction (after_whole t)))
    (cond-false (x == 45) xs (x ∷ xs) h)
    ∙ ap (λ o. option_and_then after_exponent (option_and_then after_fraction o)) (no_whole x xs k)

-- a word is bad that begins with neither minus, digit nor the first letter of a literal
bad_word : (x : ℕ) (xs : List ℕ) → (x == 45) ≡ false → is_ascii_digit x ≡ false → (x == 116) ≡ false
    → (x == 102) ≡ false → (x == 110) ≡ false → word (x ∷ xs) ≡ bad
unfolding word
bad_word x xs minus digit t f n =
    cond-false (x == 116) _ _ t ∙ cond-false (x == 102) _ _ f ∙ cond-false (x == 110) _ _ n
    ∙ ap (number_before (x ∷ xs)) (no_number x xs minus digit)

-- a text whose first byte begins no value, and is no space, is no JSON
pub no_start_text : (first : ℕ) (rest : List ℕ) → begins_value first ≡ false → read (first ∷ rest) ≡ None
unfolding lex
no_start_text first rest h =
    let before_white = or_parts _ (is_white first) h in
    let before_n = or_parts _ (first == 110) before_white.0 in
    let before_f = or_parts _ (first == 102) before_n.0 in
    let before_t = or_parts _ (first == 116) before_f.0 in
    let before_digit = or_parts _ (is_ascii_digit first) before_t.0 in
    let before_minus = or_parts _ (first == 45) before_digit.0 in
    let before_quote = or_parts (opens first) (first == 34) before_minus.0 in
    let opening = or_parts (first == 123) (first == 91) before_quote.0 in
    none_read (first ∷ rest) (no_start_byte (class first) first rest (λ next. lex next rest)
    (no_start_class (first == 34) (first == 92) (is_operator first) (is_space first) before_quote.1 before_white.1)
    (λ ls. no_start_mark (first == 123) (first == 125) (first == 91) (first == 93) (first == 44) ls opening.0 opening.1)
    (bad_word first rest before_minus.1 before_digit.1 before_t.1 before_f.1 before_n.1))

-- ---- lines by their ends

-- a list is its items but the last, and the last
but_last : (first : ℕ) (rest : List ℕ) → first ∷ rest ≡ take (length rest) (first ∷ rest) ++ slice_index_or (first ∷ rest) (length rest) 0 ∷ []
but_last first rest =
    let all : take (length rest + 1) (first ∷ rest) ≡ first ∷ rest = take_all _ _ (omega arith) in
    sym all ∙ take_more (first ∷ rest) (length rest) 0 (omega arith)

-- a line that opens an object or a list and ends with neither closing bracket nor space is no JSON
pub cut_line : (line : List ℕ) → 2 ≤ length line → opens (slice_index_or line 0 0) ≡ true
    → may_end (slice_index_or line (length line - 1) 0) ≡ false → read line ≡ None
cut_line [] long opening ends = absurd (omega (arith, long))
cut_line (first ∷ rest) long opening ends = go rest long ends
  where
    go : (rest : List ℕ) → 2 ≤ length (first ∷ rest)
        → may_end (slice_index_or (first ∷ rest) (length (first ∷ rest) - 1) 0) ≡ false → read (first ∷ rest) ≡ None
    go [] long ends = absurd (omega (arith, long))
    go (second ∷ rest) long ends =
        let last = slice_index_or (second ∷ rest) (length rest) 0 in
        let at : length (first ∷ second ∷ rest) - 1 ≡ suc (length rest) = omega arith in
        let closed : may_end last ≡ false = rw at at ends in
        ap (λ s. read (first ∷ s)) (but_last second rest)
        ∙ cut_text first last (take (length rest) (second ∷ rest)) opening closed

-- a line of which no value begins with the first byte is no JSON
pub no_start_line : (line : List ℕ) → 2 ≤ length line → begins_value (slice_index_or line 0 0) ≡ false
    → read line ≡ None
no_start_line [] long none = absurd (omega (arith, long))
no_start_line (first ∷ rest) long none = no_start_text first rest none
