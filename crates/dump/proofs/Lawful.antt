-- The test of a body's words tells the pixels of the kind. Assumes nothing.
use Rattle.std.proofs.Common.{◌≡◌, ℕ, ◌*◌, ◌<◌, ◌≤◌, List, length, is_some, Some, None, Option, sym, ap, ◌∙◌, arith, le-leb}
use Rattle.std.proofs.lemmas.Bool.{cond-true, false_from_ne_true}
use Rattle.std.proofs.lemmas.Bool.Decides.{nat_tests}
use Rattle.std.proofs.lemmas.Option.{none-some}
use Rattle.tile.specs.Kinds.{Kind, KindLaws}
use Rattle.tile.specs.Named.{named_width, named_lawful}
use Rattle.tile.specs.Words.{AreWords}
use Rattle.dump.specs.Bytes.{body_pixel, words_in}
use Rattle.dump.proofs.Spelled.{length_words_in}

pub few_words : (n : ℕ) → named_width n ≤ 5
few_words n = grind (arith, nat_tests)

module _ {P R : Type 0} (m : Kind P R) (laws : KindLaws m) (named : 0 < named_width m.number) where
  -- words are read exactly when they are lawful
  reads-told : (ws : List ℕ) (o : Option P) → length ws ≡ named_width m.number → AreWords ws → o ≡ m.reads ws → is_some o ≡ named_lawful m.number ws
  reads-told ws (Some p) long are e = sym ((laws.named named).allowed ws (p, laws.read_only ws p (sym e)))
  reads-told ws None long are e =
      sym (false_from_ne_true (named_lawful m.number ws) (λ t.
      let q = (laws.named named).all_allowed ws (long ∙ sym (laws.named named).same_width) are t in
      none-some q.0 (e ∙ ap m.reads (sym q.1) ∙ laws.read_back q.0)))

  pub body_told : (b : List ℕ) (o : Option P) → length b ≡ 4 * named_width m.number → o ≡ body_pixel m b → AreWords (words_in b) → is_some o ≡ named_lawful m.number (words_in b)
  body_told b o size read are =
      let few = few_words m.number in
      let fits = le-leb (length b) 20 (omega arith) in
      let long = length_words_in b in
      reads-told (words_in b) o (omega arith) are (read ∙ cond-true _ _ _ fits)
