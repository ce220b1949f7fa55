-- Bytes that are appended in turns.
use Rattle.std.proofs.Common.{◌≡◌, ℕ, ◌+◌, ◌-◌, ◌≤◌, List, ◌++◌, length, take, drop, Option, Some, None, Result, Ok, Err, sym, ap, subst, ◌∙◌, append_assoc, arith}
use Rattle.std.specs.Prelude.{OnErr}
use Rattle.std.proofs.Math.Seq.{take-add, take-append_seam, drop-append_seam}
use Rattle.std.proofs.lemmas.List.{take_rest, take-append-drop, length-drop}
use Rattle.std.specs.Io.KnownBytes.{Appends, Keeps}
use Rattle.unit_io.specs.Streams.{AppendsBeginning}

both : (a b c : Option (List ℕ)) (bs cs : List ℕ) → Appends a b bs → Appends b c cs → Appends a c (bs ++ cs)
both None b c bs cs p q = tt
both (Some x) None c bs cs p q = absurd p
both (Some x) (Some y) None bs cs p q = absurd q
both (Some x) (Some y) (Some z) bs cs p q = q ∙ ap (λ l. l ++ cs) p ∙ append_assoc x bs cs

pub kept : (a b c : Option (List ℕ)) (bs : List ℕ) → Appends a b bs → Keeps b c → Appends a c bs
kept None b c bs p q = tt
kept (Some x) None c bs p q = absurd p
kept (Some x) (Some y) None bs p q = absurd q
kept (Some x) (Some y) (Some z) bs p q = q ∙ p

-- n more of the bytes from `at` on
pub more : (a b c : Option (List ℕ)) (bytes : List ℕ) (at n : ℕ) → Appends a b (take at bytes) → Appends b c (take n (take (length bytes - at) (drop at bytes))) → Appends a c (take (at + n) bytes)
more a b c bytes at n p q =
    let rest : Appends b c (take n (drop at bytes)) = subst (λ xs. Appends b c (take n xs)) (take_rest bytes at) q in
    subst (Appends a c) (sym (take-add at n bytes)) (both a b c (take at bytes) (take n (drop at bytes)) p rest)

pub within_more : (bytes : List ℕ) (at n end : ℕ) → at ≤ length bytes → n ≤ length (take (length bytes - at) (drop at bytes)) → end ≡ at + n → end ≤ length bytes
within_more bytes at n end low high is =
    let long : length (take (length bytes - at) (drop at bytes)) ≡ length (drop at bytes) = ap length (take_rest bytes at) in
    omega (arith, long, length-drop at bytes)

pub longer : (a b : Option (List ℕ)) (bytes rest : List ℕ) → AppendsBeginning a b bytes → AppendsBeginning a b (bytes ++ rest)
longer a b bytes rest h =
    let first : List ℕ = take h.0 bytes in
    let last : List ℕ = drop h.0 bytes in
    let same : take (length first) (bytes ++ rest) ≡ first =
    ap (λ l. take (length first) (l ++ rest)) (sym (take-append-drop h.0 bytes)) ∙ ap (take (length first)) (append_assoc first last rest) ∙ take-append_seam first (last ++ rest) in
    (length first, subst (Appends a b) (sym same) h.1)

-- of what stands behind bytes that were appended
pub behind : {T E : Type 0} (r : Result T E) (a b c : Option (List ℕ)) (bytes rest : List ℕ) → Appends a b bytes → OnErr r (AppendsBeginning b c rest) → OnErr r (AppendsBeginning a c (bytes ++ rest))
behind (Ok x) a b c bytes rest p q = tt
behind (Err e) a b c bytes rest p q =
    let same : take (length bytes + q.0) (bytes ++ rest) ≡ bytes ++ take q.0 rest =
    take-add (length bytes) q.0 (bytes ++ rest) ∙ ap (λ l. l ++ take q.0 (drop (length bytes) (bytes ++ rest))) (take-append_seam bytes rest) ∙ ap (λ l. bytes ++ take q.0 l) (drop-append_seam bytes rest) in
    (length bytes + q.0, subst (Appends a c) (sym same) (both a b c bytes (take q.0 rest) p q.1))
