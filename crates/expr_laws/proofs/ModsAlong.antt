-- The items of modifiers lead the machine of definitions to where these were read.
use Rattle.std.proofs.Common.{◌≡◌, Bool, true, false, ◌&&◌, if◌then◌else◌, List, [], ◌∷◌, ◌++◌, Option, Some, None, codes, refl, ap, sym, ◌∙◌, append_assoc}
use Rattle.std.specs.Str.{bytes_eq}
use Rattle.scan_tokens.specs.declared.tokens.Newline.{Newline}
use Rattle.scan_tokens.specs.declared.tokens.TokenKind.TheVariants as kind
use Rattle.source_grammar.specs.Definitions.{NoQualifier, OfId, OfThis, Mod, Abstract, Final, Sealed, Lazy, Override, CaseMod, Private, Protected, mod_tokens, mod_list_tokens, ProperModList}
use Rattle.source_grammar.specs.Lexemes.{Place, Lexeme, word_at, open_square, close_square, Id, id_token}
use Rattle.source_grammar.specs.Newlines.{newline_before}
use Rattle.parse_patterns.specs.Steps.{is_no}
use Rattle.expr_tails.specs.declared.symbols.Word.{Word}
use Rattle.expr_tails.specs.declared.symbols.Word.TheVariants as word
use Rattle.expr_laws.proofs.DefsDerived.{Mark, AnAt, ALowerBound, AnUpperBound, Plain, is_sign_kind, mark, ordered, Access, PrivateWord, ProtectedWord, NamedIn, ThisIn, NoneRead, Tail, AtMods, AtAnnotation, AtAccess, AtAccessOpen, AtAccessName, Found, State, at, with_annotation, with_mod, access_mod, bridges, on_word, at_mods, at_access, at_access_open, at_access_name}
use Rattle.expr_laws.proofs.DefsSteps.{step}
use Rattle.expr_laws.proofs.Derived.{Item, OneToken}
use Rattle.expr_laws.proofs.Items.{tokens}
use Rattle.expr_laws.proofs.Leading.{LeadsBy, by-none, by-then, by-on, by-one, by-as}
use Rattle.expr_laws.proofs.Moving.{tokens-append}
use Rattle.expr_laws.proofs.Seen.{Seen, AnId, AWord, word_text, seen, seen-id, seen-word, seen-open_square, seen-close_square}
use Rattle.expr_laws.proofs.TokenSteps.{if-true}

-- ---- marks

pub mark-plain : (x : Lexeme) (y : Seen) → seen x ≡ y → is_sign_kind x.kind ≡ false → mark x ≡ Plain y
mark-plain x y e k = all-false (is_sign_kind x.kind) k ∙ ap Plain e where
  all-false : (b : Bool) → b ≡ false
      → (if b && bytes_eq x.word (codes "@") then AnAt x.place
      else (if b && bytes_eq x.word (codes ">:") then ALowerBound x.place else (if b && bytes_eq x.word (codes "<:") then AnUpperBound x.place else Plain (seen x))))
      ≡ Plain (seen x)
  all-false true f = cc
  all-false false f = refl

pub mark-id : (id : Id) → mark (id_token id) ≡ Plain (AnId id)
mark-id id = mark-plain (id_token id) (AnId id) (seen-id id) (go id.quoted) where
  go : (q : Bool) → is_sign_kind (if q then kind.BackId else kind.Id) ≡ false
  go true = refl
  go false = refl

pub mark-word : (w : Word) (p : Place) → mark (word_at (word_text w) p) ≡ Plain (AWord w p)
mark-word w p = ap Plain (seen-word w p)

-- ---- one modifier

-- what can stand behind modifiers, or among them
abbrev pub continues : Mark → Bool
continues (AnAt p) = true
continues (Plain (AWord w p)) = true
continues _ = false

-- the modifiers that end here, if what follows may stand behind them
abbrev pub mods_end : Found → Tail → Option Found
mods_end found AtMods = Some found
mods_end found (AtAnnotation sign path) = Some (with_annotation found sign path NoneRead)
mods_end found (AtAccess a p) = Some (with_mod found (access_mod a p NoQualifier))
mods_end found _ = None

-- from here it goes on as behind these modifiers
pub record Continues (s : State) (found : Found) : Type 0 where
  pub ends : mods_end s.found s.tail ≡ Some found
  pub same : (x : Lexeme) → continues (mark x) ≡ true → step s (OneToken x) ≡ step (at found AtMods) (OneToken x)

pub continues-mods : (found : Found) → Continues (at found AtMods) found
continues-mods found = record { ends = refl; same = λ x h. refl }

-- these items lead to where these modifiers were read
pub record ModsEnd (items : List Item) (s : State) (found : Found) : Type 0 where
  pub end : State
  pub leads : LeadsBy step items s end
  pub on : Continues end found

-- a word where modifiers may go on
pub word-on : (w : Word) (p : Place) (found : Found) (s : State) → Continues s found → bridges found.mods found.annotations p.before ≡ true
    → step s (OneToken (word_at (word_text w) p)) ≡ on_word found w p
word-on w p found s on b =
    on.same (word_at (word_text w) p) (ap continues (mark-word w p))
    ∙ ap (λ y. at_mods found y p.before) (mark-word w p)
    ∙ if-true (bridges found.mods found.annotations p.before) (on_word found w p) None b

-- `private` or `protected`, alone
access-alone : (found : Found) (p : Place) → Continues (at found (AtAccess PrivateWord p)) (with_mod found (Private p NoQualifier))
access-alone found p = record { ends = refl; same = λ x h. go (mark x) x.place.before h } where
  go : (y : Mark) (n : Newline) → continues y ≡ true → at_access found PrivateWord p y n ≡ at_mods (with_mod found (Private p NoQualifier)) y n
  go (AnAt q) n h = refl
  go (Plain (AWord w q)) n h = refl
  go _ n h = cc

protected-alone : (found : Found) (p : Place) → Continues (at found (AtAccess ProtectedWord p)) (with_mod found (Protected p NoQualifier))
protected-alone found p = record { ends = refl; same = λ x h. go (mark x) x.place.before h } where
  go : (y : Mark) (n : Newline) → continues y ≡ true → at_access found ProtectedWord p y n ≡ at_mods (with_mod found (Protected p NoQualifier)) y n
  go (AnAt q) n h = refl
  go (Plain (AWord w q)) n h = refl
  go _ n h = cc

-- the name in the brackets behind a word of access
named-along : (a : Access) (found : Found) (p o k : Place) (id : Id)
    → LeadsBy step (OneToken (open_square o) ∷ OneToken (id_token id) ∷ OneToken (close_square k) ∷ []) (at found (AtAccess a p)) (at (with_mod found (access_mod a p (OfId o id k))) AtMods)
named-along a found p o k id =
    by-on step (OneToken (open_square o)) _ _ (at found (AtAccessOpen a p o)) _ (ap (λ y. at_access found a p (Plain y) o.before) (seen-open_square o))
    (by-on step (OneToken (id_token id)) _ _ (at found (AtAccessName a p (NamedIn o id))) _ (ap (at_access_open found a p o) (mark-id id))
    (by-one step (OneToken (close_square k)) _ _ (ap (λ y. at_access_name found a p (NamedIn o id) (Plain y)) (seen-close_square k))))

this-along : (a : Access) (found : Found) (p o q k : Place)
    → LeadsBy step (OneToken (open_square o) ∷ OneToken (word_at (codes "this") q) ∷ OneToken (close_square k) ∷ []) (at found (AtAccess a p)) (at (with_mod found (access_mod a p (OfThis o q k))) AtMods)
this-along a found p o q k =
    by-on step (OneToken (open_square o)) _ _ (at found (AtAccessOpen a p o)) _ (ap (λ y. at_access found a p (Plain y) o.before) (seen-open_square o))
    (by-on step (OneToken (word_at (codes "this") q)) _ _ (at found (AtAccessName a p (ThisIn o q))) _ (ap (at_access_open found a p o) (mark-word word.This q))
    (by-one step (OneToken (close_square k)) _ _ (ap (λ y. at_access_name found a p (ThisIn o q) (Plain y)) (seen-close_square k))))

plain-along : (w : Word) (p : Place) (m : Mod) (found : Found) (s : State) → on_word found w p ≡ Some (at (with_mod found m) AtMods) → Continues s found
    → bridges found.mods found.annotations p.before ≡ true → ModsEnd (OneToken (word_at (word_text w) p) ∷ []) s (with_mod found m)
plain-along w p m found s e on b = record {
  end = at (with_mod found m) AtMods;
  leads = by-one step (OneToken (word_at (word_text w) p)) s _ (word-on w p found s on b ∙ e);
  on = continues-mods (with_mod found m);
}

pub mod-along : (m : Mod) (found : Found) (s : State) → Continues s found → bridges found.mods found.annotations (newline_before (mod_tokens m)) ≡ true
    → ModsEnd (tokens (mod_tokens m)) s (with_mod found m)
mod-along (Abstract p) found s on b = plain-along word.Abstract p (Abstract p) found s refl on b
mod-along (Final p) found s on b = plain-along word.Final p (Final p) found s refl on b
mod-along (Sealed p) found s on b = plain-along word.Sealed p (Sealed p) found s refl on b
mod-along (Lazy p) found s on b = plain-along word.Lazy p (Lazy p) found s refl on b
mod-along (Override p) found s on b = plain-along word.Override p (Override p) found s refl on b
mod-along (CaseMod p) found s on b = plain-along word.Case p (CaseMod p) found s refl on b
mod-along (Private p NoQualifier) found s on b = record {
  end = at found (AtAccess PrivateWord p);
  leads = by-one step (OneToken (word_at (codes "private") p)) s _ (word-on word.Private p found s on b);
  on = access-alone found p;
}
mod-along (Private p (OfId o id k)) found s on b = record {
  end = at (with_mod found (Private p (OfId o id k))) AtMods;
  leads = by-on step (OneToken (word_at (codes "private") p)) _ s (at found (AtAccess PrivateWord p)) _ (word-on word.Private p found s on b) (named-along PrivateWord found p o k id);
  on = continues-mods _;
}
mod-along (Private p (OfThis o q k)) found s on b = record {
  end = at (with_mod found (Private p (OfThis o q k))) AtMods;
  leads = by-on step (OneToken (word_at (codes "private") p)) _ s (at found (AtAccess PrivateWord p)) _ (word-on word.Private p found s on b) (this-along PrivateWord found p o q k);
  on = continues-mods _;
}
mod-along (Protected p NoQualifier) found s on b = record {
  end = at found (AtAccess ProtectedWord p);
  leads = by-one step (OneToken (word_at (codes "protected") p)) s _ (word-on word.Protected p found s on b);
  on = protected-alone found p;
}
mod-along (Protected p (OfId o id k)) found s on b = record {
  end = at (with_mod found (Protected p (OfId o id k))) AtMods;
  leads = by-on step (OneToken (word_at (codes "protected") p)) _ s (at found (AtAccess ProtectedWord p)) _ (word-on word.Protected p found s on b) (named-along ProtectedWord found p o k id);
  on = continues-mods _;
}
mod-along (Protected p (OfThis o q k)) found s on b = record {
  end = at (with_mod found (Protected p (OfThis o q k))) AtMods;
  leads = by-on step (OneToken (word_at (codes "protected") p)) _ s (at found (AtAccess ProtectedWord p)) _ (word-on word.Protected p found s on b) (this-along ProtectedWord found p o q k);
  on = continues-mods _;
}

pub mod-front : (m : Mod) (xs : List Lexeme) → newline_before (mod_tokens m ++ xs) ≡ newline_before (mod_tokens m)
mod-front (Abstract p) xs = refl
mod-front (Final p) xs = refl
mod-front (Sealed p) xs = refl
mod-front (Lazy p) xs = refl
mod-front (Override p) xs = refl
mod-front (CaseMod p) xs = refl
mod-front (Private p q) xs = refl
mod-front (Protected p q) xs = refl

abbrev pub found_with : Found → List Mod → Found
found_with found ms = record { annotations = found.annotations; mods = ordered ms found.mods }

-- modifiers, one after the other; what follows may stand behind the last
pub record ModListEnd (ms : List Mod) (after : List Lexeme) (s : State) (found : Found) : Type 0 where
  pub read : ModsEnd (tokens (mod_list_tokens ms)) s (found_with found ms)
  pub bridged : bridges (ordered ms found.mods) found.annotations (newline_before after) ≡ true

pub mod-list-along : (ms : List Mod) (after : List Lexeme) → ProperModList ms after → (found : Found) (s : State) → Continues s found
    → bridges found.mods found.annotations (newline_before (mod_list_tokens ms ++ after)) ≡ true → ModListEnd ms after s found
mod-list-along [] after p found s on b = record { read = record { end = s; leads = by-none step s; on = on }; bridged = b }
mod-list-along (m ∷ ms) after p found s on b =
    let first = mod-along m found s on
    (ap (bridges found.mods found.annotations) (sym (ap newline_before (append_assoc (mod_tokens m) (mod_list_tokens ms) after) ∙ mod-front m (mod_list_tokens ms ++ after))) ∙ b) in
    let rest = mod-list-along ms after p.1 (with_mod found m) first.end first.on (ap is_no p.0) in
    record {
      read = record {
        end = rest.read.end;
        leads = by-as step (tokens (mod_tokens m) ++ tokens (mod_list_tokens ms)) _ s _ (sym (tokens-append (mod_tokens m) (mod_list_tokens ms)))
            (by-then step (tokens (mod_tokens m)) _ s first.end _ first.leads rest.read.leads);
        on = rest.read.on;
      };
      bridged = rest.bridged;
    }
