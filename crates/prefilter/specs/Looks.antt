-- Attempts that fail, whatever is gone back to.
use Rattle.std.specs.Prelude.{◌≡◌, ◌+◌, ◌*◌, ◌%◌, ◌<◌, ◌≤◌, ℕ, List, [], Some, false, length, get_or, slice_get}
use Rattle.model.specs.Pattern.BasicEnds.{is_in_set}
use Rattle.model.specs.Pattern.Patterns.{Do, Lit, Pending}
use Rattle.model.specs.Pattern.Steps.{Choice, Code, Note, back, go, pattern_steps, settled}
use Rattle.prefilter.specs.Starts.{RunsOn}

-- on at the place q, which may be the end of the code, and the cursor c, an attempt with these notes fails in n steps
abbrev pub FailsAt : List ℕ → Code → List Note → (q c n : ℕ) → Type 0
FailsAt u code ns q c n =
    (code' : Code) (ps : Pending) (cs : List Choice) (b left : ℕ) → (back cs b left [] ≡ pattern_steps u code' n (go (settled ns code q c ps) cs b left [])) × RunsOn u code' n (go (settled ns code q c ps) cs b left [])

-- the match fails in n steps from the start b, that which begins the attempt included
abbrev pub StartFails : List ℕ → Code → (b n : ℕ) → Type 0
StartFails u code b n = (m : ℕ) × (n ≡ m + 1) × FailsAt u code [] 0 b m

-- the first attempt of each of the k starts from b on fails in n steps
abbrev pub FailFrom : List ℕ → Code → (b k n : ℕ) → Type 0
FailFrom u code b k n = (c : ℕ) → b ≤ c → c < b + k → FailsAt u code [] 0 c n

-- a number for two bytes, or for the first alone where the factor is 0
abbrev pub key_of : (x y f : ℕ) → ℕ
key_of x y f = (x + y * f) % 256

-- a literal stands at the place q of the code, and this is the number for its first bytes, of which there are two if the
-- factor isn't 0
abbrev pub HasKey : Code → (q f k : ℕ) → Type 0
HasKey code q f k =
    (w : List ℕ) × (slice_get code q ≡ Some (Do (Lit w))) × (0 < length w) × (length w ≡ 1 → f ≡ 0) × (k ≡ key_of (get_or w 0 0) (get_or w 1 0) f)

-- an attempt at the place q fails in n steps where the next two bytes have none of these numbers
abbrev pub FailsUnless : Code → (q f : ℕ) → List ℕ → ℕ → Type 0
FailsUnless code q f ws n =
    (u : List ℕ) (ns : List Note) (c : ℕ) → c + 1 < length u → is_in_set ws (key_of (get_or u c 0) (get_or u (c + 1) 0) f) ≡ false → FailsAt u code ns q c n

-- n steps lead an attempt from the front of the code to the place q
abbrev pub LeadsFromFront : Code → (q n : ℕ) → Type 0
LeadsFromFront code q n =
    (u : List ℕ) (ns : List Note) (c m : ℕ) → ((ms : List Note) → FailsAt u code ms q c m) → FailsAt u code ns 0 c (m + n)
