-- The object at a position of the bytes, cut out of them.
use Rattle.std.proofs.Common.{◌≡◌, ℕ, ◌+◌, ◌-◌, ◌<◌, ◌≤◌, List, ◌++◌, length, take, drop, sym, ap, ◌∙◌, arith, length-append, length-drop, take-append-drop, length-take-le, drop-drop}
use Rattle.std.proofs.lemmas.Slice.{between_is}
use Rattle.object.specs.Reading.{Head}
use Rattle.object.specs.Objects.{Begins, LawfulTag, tag_bytes, length_bytes, header_size}

pub record Cut (xs : List ℕ) (p t from to : ℕ) (v : List ℕ) : Type 0 where
  pub begins : Begins (drop p xs) t v (drop to xs)
  pub at : from ≡ p + header_size t v
  pub pos : to ≡ from + length v
  pub within : v ≡ drop from (take to xs)

pub cut_from : (xs rest : List ℕ) (p : ℕ) (h : Head) → rest ≡ drop p xs →
    LawfulTag h.tag × (rest ≡ tag_bytes h.tag ++ (length_bytes h.len ++ drop h.size rest)) → h.len < 65536 → p + h.size + h.len ≤ length xs →
    Cut xs p h.tag (p + h.size) (p + h.size + h.len) (take (p + h.size + h.len - (p + h.size)) (drop (p + h.size) xs))
unfolding header_size
cut_from xs rest p h e w s m =
    let at = p + h.size in
    let ys = drop at xs in
    let len : at + h.len - at ≡ h.len = omega arith in
    let body : drop h.size rest ≡ ys = ap (drop h.size) e ∙ drop-drop h.size p xs in
    let parts : ys ≡ take h.len ys ++ drop (at + h.len) xs = sym (take-append-drop h.len ys) ∙ ap (λ zs. take h.len ys ++ zs) (drop-drop h.len at xs) in
    let fits : length (take h.len ys) ≡ h.len = length-take-le h.len ys (omega (arith, length-drop at xs)) in
    let long : length rest ≡ length (tag_bytes h.tag) + (length (length_bytes h.len) + length (drop h.size rest)) =
    ap length w.1 ∙ length-append (tag_bytes h.tag) _ ∙ ap (λ k. length (tag_bytes h.tag) + k) (length-append (length_bytes h.len) _) in
    rw len record {
      begins = record { lawful = w.0; small = omega (arith, fits); written = sym e ∙ w.1 ∙ rw (fits, body) (ap (λ zs. tag_bytes h.tag ++ (length_bytes h.len ++ zs)) parts) };
      at = rw fits (omega (arith, long, length-drop h.size rest, ap length e, length-drop p xs));
      pos = omega (arith, fits);
      within = rw len at (between_is xs at (at + h.len));
    }
