-- The code of each kind of pattern, made of the codes of its parts.
use Rattle.std.specs.Prelude.{ℕ, ◌+◌, pos, negsuc, [], ◌∷◌, ◌++◌, length, ◌==◌, if◌then◌else◌}
use Rattle.model.specs.Pattern.Patterns.{Kind, Basic, Lit, Instr, Do, Split, Jmp, Open, OpenFence, CloseFence, Close, Say, AtCursor, Eval, EvalBasic}
use Rattle.model.specs.Pattern.Steps.{Code}
use Rattle.model.specs.Deck.Target.{Name}

-- the null literal has no instruction
abbrev pub basic_code : Basic → Code
basic_code (Lit []) = []
basic_code k = Do k ∷ []

-- a distance, which leads k further where it leads over all of the n instructions that are left
abbrev pub led_past : (k n : ℕ) → ℕ → ℕ
led_past k n d = if d == n then d + k else d

abbrev pub exit_past : (k n : ℕ) → Instr → Instr
exit_past k n (Split (pos d)) = Split (pos (led_past k n d))
exit_past k n (Jmp (pos d)) = Jmp (pos (led_past k n d))
exit_past k n i = i

-- the code, in which each SPLIT and JMP that leads to its end leads k further
abbrev pub exits_past : (k : ℕ) → Code → Code
exits_past k [] = []
exits_past k (i ∷ is) = exit_past k (length (i ∷ is)) i ∷ exits_past k is

-- `p | q`: where p's code leads to its end, it leads past q
abbrev pub alt_code : Code → Code → Code
alt_code p q = Split (pos (length p + 2)) ∷ (exits_past (length q + 1) p ++ Jmp (pos (length q + 1)) ∷ q)

abbrev pub cat_code : Code → Code → Code
cat_code p q = p ++ q

-- nothing first, then p and ARBNO(p)
abbrev pub arbno_code : Code → Code
arbno_code p = Split (pos 2) ∷ Jmp (pos (length p + 2)) ∷ (p ++ Jmp (negsuc (length p + 1)) ∷ [])

-- `FENCE(p)`
abbrev pub fence_code : Code → Code
fence_code p = OpenFence ∷ (p ++ CloseFence ∷ [])

-- `p . X`
abbrev pub cond_code : Code → Name → Code
cond_code p x = Open ∷ (p ++ Close x ∷ [])

-- `p $ X`
abbrev pub imm_code : Code → Name → Code
imm_code p x = Open ∷ (p ++ Say x ∷ [])

-- `@X`
abbrev pub cursor_code : Name → Code
cursor_code x = AtCursor x ∷ []

-- `*E`, and LEN(*E) and its like, with the number of E
abbrev pub defer_code : ℕ → Code
defer_code e = Eval e ∷ []

abbrev pub defer_basic_code : Kind → ℕ → Code
defer_basic_code k e = EvalBasic k e ∷ []
