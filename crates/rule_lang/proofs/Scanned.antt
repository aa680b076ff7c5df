-- The tokens of what is left of a text, one at a time.
use Rattle.std.proofs.Common.{◌≡◌, ℕ, zero, suc, ◌+◌, ◌-◌, ◌≤◌, ◌<◌, max, List, [], ◌∷◌, ◌++◌, length, take, drop, length-drop, Result, Ok, Err, refl, sym, ap, ◌∙◌, arith}
use Rattle.std.proofs.lemmas.List.{take_rest}
use Rattle.std.proofs.Math.Seq.{drop-drop, drop-length}
use Rattle.rule_lang.specs.declared.fault.RuleError.{RuleError}
use Rattle.rule_lang.specs.declared.token.Kind.{Kind}
use Rattle.rule_lang.specs.declared.token.Kind.TheVariants.{End}
use Rattle.rule_lang.specs.declared.token.Token.{Token}
use Rattle.rule_lang.specs.declared.token.Front.{Front}
use Rattle.rule_lang.specs.declared.token.Front.TheVariants.{Blank, Lexeme, Bad}
use Rattle.rule_lang.specs.Tokens.{Fault, front_of, put, put_front, tokens_from}

-- tokens before what follows them
abbrev pub behind : List Token → Result (List Token) Fault → Result (List Token) Fault
behind [] rest = rest
behind (t ∷ ts) rest = put t (behind ts rest)

behind-push : (ts : List Token) (t : Token) (rest : Result (List Token) Fault) → behind (ts ++ t ∷ []) rest ≡ behind ts (put t rest)
behind-push [] t rest = refl
behind-push (u ∷ ts) t rest = ap (put u) (behind-push ts t rest)

pub behind-end : (ts : List Token) (t : Token) → behind ts (Ok (t ∷ [])) ≡ Ok (ts ++ t ∷ [])
behind-end [] t = refl
behind-end (u ∷ ts) t = ap (put u) (behind-end ts t)

pub behind-fault : (ts : List Token) (fault : Fault) → behind ts (Err fault) ≡ Err fault
behind-fault [] fault = refl
behind-fault (u ∷ ts) fault = ap (put u) (behind-fault ts fault)

-- bytes inside a token are passed over
tokens-inside : (at inside : ℕ) (text : List ℕ) → inside ≤ length text → tokens_from at inside text ≡ tokens_from (at + inside) 0 (drop inside text)
unfolding tokens_from
tokens-inside at zero text h = rw (let e : at + 0 ≡ at = omega arith in e) refl
tokens-inside at (suc inside) [] h = absurd (omega arith)
tokens-inside at (suc inside) (b ∷ text) h =
    rw (tokens-inside (at + 1) inside text (omega arith), (let e : at + 1 + inside ≡ at + suc inside = omega arith in e)) refl

-- what stands at a place decides how the tokens go on from it
tokens-front : (at : ℕ) (text : List ℕ) → 0 < length text → tokens_from at 0 text ≡ put_front (front_of text) at (λ inside. tokens_from (at + 1) inside (drop 1 text))
unfolding tokens_from
tokens-front at [] h = absurd (omega arith)
tokens-front at (b ∷ text) h = refl

-- the same of a text from a place on, as the code cuts it
tokens-step : (text : List ℕ) (at : ℕ) (front : Front) → at < length text → front ≡ front_of (take (length text - at) (drop at text)) → tokens_from at 0 (drop at text) ≡ put_front front at (λ inside. tokens_from (at + 1) inside (drop (at + 1) text))
tokens-step text at front h e =
    let some : 0 < length (drop at text) = omega (arith, length-drop at text) in
    let same : front ≡ front_of (drop at text) = rw take_rest at e in
    tokens-front at (drop at text) some ∙ rw (drop-drop, same) refl

pub tokens-blank : (text : List ℕ) (at : ℕ) (ts : List Token) → at < length text → Blank ≡ front_of (take (length text - at) (drop at text)) → tokens_from 0 0 text ≡ behind ts (tokens_from at 0 (drop at text)) → tokens_from 0 0 text ≡ behind ts (tokens_from (at + 1) 0 (drop (at + 1) text))
tokens-blank text at ts h e rest = rest ∙ ap (behind ts) (tokens-step text at Blank h e)

pub tokens-lexeme : (text : List ℕ) (at : ℕ) (ts : List Token) (sort : Kind) (size : ℕ) → at < length text → size ≤ length text - at → Lexeme sort size ≡ front_of (take (length text - at) (drop at text)) → tokens_from 0 0 text ≡ behind ts (tokens_from at 0 (drop at text)) → tokens_from 0 0 text ≡ behind (ts ++ record { kind = sort; at = at } ∷ []) (tokens_from (at + max size 1) 0 (drop (at + max size 1) text))
tokens-lexeme text at ts sort size h within e rest =
    let inside = tokens-inside (at + 1) (size - 1) (drop (at + 1) text) (omega (arith, length-drop (at + 1) text)) in
    let place : at + 1 + (size - 1) ≡ at + max size 1 = omega arith in
    let step = tokens-step text at (Lexeme sort size) h e in
    rest ∙ ap (behind ts) (step ∙ ap (put (record { kind = sort; at = at })) (rw (place, drop-drop, place) at inside)) ∙ sym (behind-push ts (record { kind = sort; at = at }) _)

pub tokens-bad : (text : List ℕ) (at : ℕ) (ts : List Token) (error : RuleError) → at < length text → Bad error ≡ front_of (take (length text - at) (drop at text)) → tokens_from 0 0 text ≡ behind ts (tokens_from at 0 (drop at text)) → tokens_from 0 0 text ≡ Err (error, at)
tokens-bad text at ts error h e rest =
    rest ∙ ap (behind ts) (tokens-step text at (Bad error) h e) ∙ behind-fault ts (error, at)

pub tokens-end : (text : List ℕ) (at : ℕ) (ts : List Token) → at ≤ length text → length text ≤ at → tokens_from 0 0 text ≡ behind ts (tokens_from at 0 (drop at text)) → tokens_from 0 0 text ≡ Ok (ts ++ record { kind = End; at = length text } ∷ [])
unfolding tokens_from
tokens-end text at ts h g rest =
    let here : at ≡ length text = omega arith in
    rest ∙ rw (here, drop-length) (behind-end ts (record { kind = End; at = length text }))
