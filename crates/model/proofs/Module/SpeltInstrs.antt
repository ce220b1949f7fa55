-- The instruction table: what is read is spelt so, and what is spelt is read.
use Rattle.std.proofs.Common.{◌≡◌, ℕ, zero, suc, ◌+◌, List, [], ◌∷◌, ◌++◌, Option, Some, refl, subst, arith}
use Rattle.std.specs.Prelude.{slice_get}
use Rattle.model.specs.declared.image.PatInstr.{PatInstr}
use Rattle.model.specs.declared.image.PatInstr.TheVariants as pats
use Rattle.model.specs.declared.instr.Instr.{Instr}
use Rattle.model.specs.declared.instr.Instr.TheVariants as instrs
use Rattle.model.specs.declared.keys.KeyId.{KeyId}
use Rattle.model.specs.declared.keys.KeyId.TheVariants as keyIds
use Rattle.model.specs.declared.primitives.PrimId.{PrimId}
use Rattle.model.specs.declared.primitives.PrimId.TheVariants as primIds
use Rattle.model.specs.declared.instr.ReturnKind.{ReturnKind}
use Rattle.model.specs.declared.instr.ReturnKind.TheVariants as returnKinds
use Rattle.model.specs.declared.instr.SignOp.{SignOp}
use Rattle.model.specs.declared.instr.SignOp.TheVariants as signOps
use Rattle.model.specs.declared.instr.ArithOp.{ArithOp}
use Rattle.model.specs.declared.instr.ArithOp.TheVariants as arithOps
use Rattle.model.specs.Language.Names.{keys, prims}
use Rattle.model.specs.Module.Codes.{return_kinds, sign_ops, arith_ops, key_code, prim_code, return_code, sign_code, arith_code}
use Rattle.model.specs.Module.Spelling.{opcode, operands, instr, InstrFits, pat_kind, pat_operand, PatFits}
use Rattle.model.specs.Module.Reading.{◌>>>◌, byte, instr_of, readers, pat_readers, alone}
use Rattle.model.specs.Laws.OneSpelling.{IsBytes}
use Rattle.model.proofs.Module.SpeltNumbers.{some_bind, Takes, byte_takes, Takes-then}
use Rattle.model.proofs.Module.SpeltOperands.{IsReader, AreCodes, alone_reads, wide_reads, short_reads, long_reads, whole_reads, distance_reads, call_reads, choice_reads, prim_reads, wide_again, short_again, long_again, whole_again, distance_again, call_again, choice_again, prim_again}

keys_are : AreCodes key_code 0 keys
keys_are = (refl, (refl, (refl, (refl, (refl, (refl, (refl, (refl, (refl, (refl, (refl, (refl, (refl, (refl, tt))))))))))))))

key_code_again : (x : KeyId) → slice_get keys (key_code x) ≡ Some x
key_code_again keyIds.Anchor = refl
key_code_again keyIds.FullScan = refl
key_code_again keyIds.Trim = refl
key_code_again keyIds.Input = refl
key_code_again keyIds.Output = refl
key_code_again keyIds.StLimit = refl
key_code_again keyIds.MaxLngth = refl
key_code_again keyIds.Alphabet = refl
key_code_again keyIds.StCount = refl
key_code_again keyIds.StNo = refl
key_code_again keyIds.LastNo = refl
key_code_again keyIds.StFCount = refl
key_code_again keyIds.FncLevel = refl
key_code_again keyIds.RtnType = refl

prims_are : AreCodes prim_code 0 prims
prims_are = (refl, (refl, (refl, (refl, (refl, (refl, (refl, (refl, (refl, (refl, (refl, (refl, (refl, (refl, (refl, (refl, (refl, (refl, (refl, (refl, (refl, (refl, (refl, (refl, (refl, (refl, (refl, (refl, (refl, (refl, (refl, (refl, (refl, (refl, (refl, (refl, (refl, (refl, tt))))))))))))))))))))))))))))))))))))))

prim_code_again : (x : PrimId) → slice_get prims (prim_code x) ≡ Some x
prim_code_again primIds.Len = refl
prim_code_again primIds.Pos = refl
prim_code_again primIds.RPos = refl
prim_code_again primIds.Tab = refl
prim_code_again primIds.RTab = refl
prim_code_again primIds.Any = refl
prim_code_again primIds.NotAny = refl
prim_code_again primIds.Span = refl
prim_code_again primIds.Break = refl
prim_code_again primIds.Arbno = refl
prim_code_again primIds.Eq = refl
prim_code_again primIds.Ne = refl
prim_code_again primIds.Lt = refl
prim_code_again primIds.Le = refl
prim_code_again primIds.Gt = refl
prim_code_again primIds.Ge = refl
prim_code_again primIds.Lgt = refl
prim_code_again primIds.Ident = refl
prim_code_again primIds.Differ = refl
prim_code_again primIds.Integer = refl
prim_code_again primIds.Size = refl
prim_code_again primIds.Trim = refl
prim_code_again primIds.Dupl = refl
prim_code_again primIds.Replace = refl
prim_code_again primIds.Remdr = refl
prim_code_again primIds.DataType = refl
prim_code_again primIds.Array = refl
prim_code_again primIds.Table = refl
prim_code_again primIds.Item = refl
prim_code_again primIds.Copy = refl
prim_code_again primIds.Convert = refl
prim_code_again primIds.Data = refl
prim_code_again primIds.Define = refl
prim_code_again primIds.Apply = refl
prim_code_again primIds.Input = refl
prim_code_again primIds.Output = refl
prim_code_again primIds.Detach = refl
prim_code_again primIds.Fence = refl

return_kinds_are : AreCodes return_code 0 return_kinds
return_kinds_are = (refl, (refl, (refl, tt)))

return_code_again : (x : ReturnKind) → slice_get return_kinds (return_code x) ≡ Some x
return_code_again returnKinds.Return = refl
return_code_again returnKinds.FReturn = refl
return_code_again returnKinds.NReturn = refl

sign_ops_are : AreCodes sign_code 0 sign_ops
sign_ops_are = (refl, (refl, tt))

sign_code_again : (x : SignOp) → slice_get sign_ops (sign_code x) ≡ Some x
sign_code_again signOps.Plus = refl
sign_code_again signOps.Minus = refl

arith_ops_are : AreCodes arith_code 0 arith_ops
arith_ops_are = (refl, (refl, (refl, (refl, (refl, tt)))))

arith_code_again : (x : ArithOp) → slice_get arith_ops (arith_code x) ≡ Some x
arith_code_again arithOps.Add = refl
arith_code_again arithOps.Subtract = refl
arith_code_again arithOps.Multiply = refl
arith_code_again arithOps.Divide = refl
arith_code_again arithOps.Power = refl

abbrev AreReaders : {I : Type 0} → (I → ℕ) → (I → List ℕ) → (I → Type 0) → ℕ → List (List ℕ → Option (I × List ℕ)) → Type 0
AreReaders op ops Fits k [] = Unit {0}
AreReaders op ops Fits k (r ∷ rs) = IsReader op ops Fits k r × AreReaders op ops Fits (suc k) rs

reader_at : {I : Type 0} (op : I → ℕ) (ops : I → List ℕ) (Fits : I → Type 0) (k : ℕ) (rs : List (List ℕ → Option (I × List ℕ))) (b : ℕ) (r : List ℕ → Option (I × List ℕ)) → AreReaders op ops Fits k rs → slice_get rs b ≡ Some r → IsReader op ops Fits (b + k) r
reader_at op ops Fits k [] b r h e = absurd cc
reader_at op ops Fits k (q ∷ rs) zero r h e =
    let same : q ≡ r = cc in
    let r0 : IsReader op ops Fits k r = subst (IsReader op ops Fits k) same h.0 in
    let n : k ≡ zero + k = omega arith in
    subst (λ (j : ℕ). IsReader op ops Fits j r) n r0
reader_at op ops Fits k (q ∷ rs) (suc b) r h e =
    let later = reader_at op ops Fits (suc k) rs b r h.1 e in
    let n : b + suc k ≡ suc b + k = omega arith in
    subst (λ (j : ℕ). IsReader op ops Fits j r) n later

readers_are : AreReaders opcode operands InstrFits 0 readers
unfolding readers
readers_are = (
  alone_reads opcode operands InstrFits _ instrs.End refl refl tt,
  (
    wide_reads opcode operands InstrFits _ instrs.Begin (λ n. refl) (λ n. refl) (λ n h. h),
    (
      alone_reads opcode operands InstrFits _ instrs.Body refl refl tt,
      (
        wide_reads opcode operands InstrFits _ instrs.Goto (λ n. refl) (λ n. refl) (λ n h. h),
        (
          choice_reads opcode operands InstrFits _ return_kinds return_code instrs.Return return_kinds_are (λ a. refl) (λ a. refl) (λ a. tt),
          (
            alone_reads opcode operands InstrFits _ instrs.GotoV refl refl tt,
            (
              alone_reads opcode operands InstrFits _ instrs.NoLabel refl refl tt,
              (
                wide_reads opcode operands InstrFits _ instrs.Str (λ n. refl) (λ n. refl) (λ n h. h),
                (
                  whole_reads opcode operands InstrFits _ instrs.Int (λ n. refl) (λ n. refl) (λ n h. h),
                  (
                    alone_reads opcode operands InstrFits _ instrs.Null refl refl tt,
                    (
                      wide_reads opcode operands InstrFits _ instrs.Var (λ n. refl) (λ n. refl) (λ n h. h),
                      (
                        alone_reads opcode operands InstrFits _ instrs.Fetch refl refl tt,
                        (
                          choice_reads opcode operands InstrFits _ keys key_code instrs.KeyGet keys_are (λ a. refl) (λ a. refl) (λ a. tt),
                          (
                            choice_reads opcode operands InstrFits _ keys key_code instrs.KeySet keys_are (λ a. refl) (λ a. refl) (λ a. tt),
                            (
                              alone_reads opcode operands InstrFits _ instrs.Indir refl refl tt,
                              (
                                short_reads opcode operands InstrFits _ instrs.Elem (λ n. refl) (λ n. refl) (λ n h. h),
                                (
                                  alone_reads opcode operands InstrFits _ instrs.Assign refl refl tt,
                                  (
                                    alone_reads opcode operands InstrFits _ instrs.NameV refl refl tt,
                                    (
                                      wide_reads opcode operands InstrFits _ instrs.Expr (λ n. refl) (λ n. refl) (λ n h. h),
                                      (
                                        call_reads opcode operands InstrFits _ instrs.CallV (λ s n. refl) (λ s n. refl) (λ s n h j. (h, j)),
                                        (
                                          call_reads opcode operands InstrFits _ instrs.CallN (λ s n. refl) (λ s n. refl) (λ s n h j. (h, j)),
                                          (
                                            prim_reads opcode operands InstrFits _ instrs.PrimV prims_are (λ p n. refl) (λ p n. refl) (λ p n h. h),
                                            (
                                              prim_reads opcode operands InstrFits _ instrs.PrimN prims_are (λ p n. refl) (λ p n. refl) (λ p n h. h),
                                              (
                                                alone_reads opcode operands InstrFits _ instrs.Drop refl refl tt,
                                                (
                                                  wide_reads opcode operands InstrFits _ instrs.Try (λ n. refl) (λ n. refl) (λ n h. h),
                                                  (
                                                    alone_reads opcode operands InstrFits _ instrs.Untry refl refl tt,
                                                    (
                                                      alone_reads opcode operands InstrFits _ instrs.Fail refl refl tt,
                                                      (
                                                        choice_reads opcode operands InstrFits _ sign_ops sign_code instrs.Sign sign_ops_are (λ a. refl) (λ a. refl) (λ a. tt),
                                                        (
                                                          choice_reads opcode operands InstrFits _ arith_ops arith_code instrs.Arith arith_ops_are (λ a. refl) (λ a. refl) (λ a. tt),
                                                          (
                                                            alone_reads opcode operands InstrFits _ instrs.Cat refl refl tt,
                                                            (
                                                              alone_reads opcode operands InstrFits _ instrs.Alt refl refl tt,
                                                              (
                                                                alone_reads opcode operands InstrFits _ instrs.Cond refl refl tt,
                                                                (
                                                                  alone_reads opcode operands InstrFits _ instrs.Imm refl refl tt,
                                                                  (
                                                                    alone_reads opcode operands InstrFits _ instrs.Cursor refl refl tt,
                                                                    (
                                                                      wide_reads opcode operands InstrFits _ instrs.Pat (λ n. refl) (λ n. refl) (λ n h. h),
                                                                      (
                                                                        alone_reads opcode operands InstrFits _ instrs.FetchK refl refl tt,
                                                                        (
                                                                          alone_reads opcode operands InstrFits _ instrs.Match refl refl tt,
                                                                          (
                                                                            alone_reads opcode operands InstrFits _ instrs.MatchR refl refl tt,
                                                                            (
                                                                              alone_reads opcode operands InstrFits _ instrs.Splice refl refl tt,
                                                                              (
                                                                                alone_reads opcode operands InstrFits _ instrs.Ret refl refl tt,
                                                                                tt,
                                                                              ),
                                                                            ),
                                                                          ),
                                                                        ),
                                                                      ),
                                                                    ),
                                                                  ),
                                                                ),
                                                              ),
                                                            ),
                                                          ),
                                                        ),
                                                      ),
                                                    ),
                                                  ),
                                                ),
                                              ),
                                            ),
                                          ),
                                        ),
                                      ),
                                    ),
                                  ),
                                ),
                              ),
                            ),
                          ),
                        ),
                      ),
                    ),
                  ),
                ),
              ),
            ),
          ),
        ),
      ),
    ),
  ),
)

pat_readers_are : AreReaders pat_kind pat_operand PatFits 0 pat_readers
unfolding pat_readers
pat_readers_are = (
  wide_reads pat_kind pat_operand PatFits _ pats.Lit (λ n. refl) (λ n. refl) (λ n h. h),
  (
    distance_reads pat_kind pat_operand PatFits _ pats.Split (λ n. refl) (λ n. refl) (λ n h. h),
    (
      distance_reads pat_kind pat_operand PatFits _ pats.Jmp (λ n. refl) (λ n. refl) (λ n h. h),
      (
        long_reads pat_kind pat_operand PatFits _ pats.Len (λ n. refl) (λ n. refl) (λ n h. h),
        (
          long_reads pat_kind pat_operand PatFits _ pats.Pos (λ n. refl) (λ n. refl) (λ n h. h),
          (
            long_reads pat_kind pat_operand PatFits _ pats.RPos (λ n. refl) (λ n. refl) (λ n h. h),
            (
              long_reads pat_kind pat_operand PatFits _ pats.Tab (λ n. refl) (λ n. refl) (λ n h. h),
              (
                long_reads pat_kind pat_operand PatFits _ pats.RTab (λ n. refl) (λ n. refl) (λ n h. h),
                (
                  wide_reads pat_kind pat_operand PatFits _ pats.Any (λ n. refl) (λ n. refl) (λ n h. h),
                  (
                    wide_reads pat_kind pat_operand PatFits _ pats.NotAny (λ n. refl) (λ n. refl) (λ n h. h),
                    (
                      wide_reads pat_kind pat_operand PatFits _ pats.Span (λ n. refl) (λ n. refl) (λ n h. h),
                      (
                        wide_reads pat_kind pat_operand PatFits _ pats.Break (λ n. refl) (λ n. refl) (λ n h. h),
                        tt,
                      ),
                    ),
                  ),
                ),
              ),
            ),
          ),
        ),
      ),
    ),
  ),
)

pub instr_takes : (bytes : List ℕ) (x : Instr × List ℕ) → IsBytes bytes → instr_of bytes ≡ Some x → Takes bytes (instr x.0) x.1 × InstrFits x.0
unfolding instr_of
instr_takes bytes x fits e =
    let a = some_bind (byte bytes) (λ b. slice_get readers b.0 >>> λ r. r b.1) x e in
    let b = some_bind (slice_get readers a.0.0) (λ r. r a.0.1) x a.2 in
    let t = byte_takes bytes a.0 fits a.1 in
    let u = reader_at opcode operands InstrFits 0 readers a.0.0 b.0 readers_are b.1 a.0.1 x t.0.rest_fits b.2 in
    let code : opcode x.0 ≡ a.0.0 = omega (arith, u.1) in
    (rw code (Takes-then bytes (a.0.0 ∷ []) a.0.1 (operands x.0) x.1 t.0 u.0), u.2)

pub instr_again : (i : Instr) (rest : List ℕ) → InstrFits i → instr_of (instr i ++ rest) ≡ Some (i, rest)
unfolding instr_of readers alone
instr_again instrs.End rest h = refl
instr_again (instrs.Begin n) rest h = wide_again instrs.Begin n rest h
instr_again instrs.Body rest h = refl
instr_again (instrs.Goto n) rest h = wide_again instrs.Goto n rest h
instr_again (instrs.Return x) rest h = choice_again return_kinds (return_code x) instrs.Return x rest (return_code_again x)
instr_again instrs.GotoV rest h = refl
instr_again instrs.NoLabel rest h = refl
instr_again (instrs.Str n) rest h = wide_again instrs.Str n rest h
instr_again (instrs.Int n) rest h = whole_again instrs.Int n rest h
instr_again instrs.Null rest h = refl
instr_again (instrs.Var n) rest h = wide_again instrs.Var n rest h
instr_again instrs.Fetch rest h = refl
instr_again (instrs.KeyGet x) rest h = choice_again keys (key_code x) instrs.KeyGet x rest (key_code_again x)
instr_again (instrs.KeySet x) rest h = choice_again keys (key_code x) instrs.KeySet x rest (key_code_again x)
instr_again instrs.Indir rest h = refl
instr_again (instrs.Elem n) rest h = short_again instrs.Elem n rest h
instr_again instrs.Assign rest h = refl
instr_again instrs.NameV rest h = refl
instr_again (instrs.Expr n) rest h = wide_again instrs.Expr n rest h
instr_again (instrs.CallV s n) rest h = call_again instrs.CallV s n rest h.0 h.1
instr_again (instrs.CallN s n) rest h = call_again instrs.CallN s n rest h.0 h.1
instr_again (instrs.PrimV p n) rest h = prim_again instrs.PrimV p n rest (prim_code_again p)
instr_again (instrs.PrimN p n) rest h = prim_again instrs.PrimN p n rest (prim_code_again p)
instr_again instrs.Drop rest h = refl
instr_again (instrs.Try n) rest h = wide_again instrs.Try n rest h
instr_again instrs.Untry rest h = refl
instr_again instrs.Fail rest h = refl
instr_again (instrs.Sign x) rest h = choice_again sign_ops (sign_code x) instrs.Sign x rest (sign_code_again x)
instr_again (instrs.Arith x) rest h = choice_again arith_ops (arith_code x) instrs.Arith x rest (arith_code_again x)
instr_again instrs.Cat rest h = refl
instr_again instrs.Alt rest h = refl
instr_again instrs.Cond rest h = refl
instr_again instrs.Imm rest h = refl
instr_again instrs.Cursor rest h = refl
instr_again (instrs.Pat n) rest h = wide_again instrs.Pat n rest h
instr_again instrs.FetchK rest h = refl
instr_again instrs.Match rest h = refl
instr_again instrs.MatchR rest h = refl
instr_again instrs.Splice rest h = refl
instr_again instrs.Ret rest h = refl

pub operand_takes : (k : ℕ) (r : List ℕ → Option (PatInstr × List ℕ)) (bytes : List ℕ) (x : PatInstr × List ℕ) → slice_get pat_readers k ≡ Some r → IsBytes bytes → r bytes ≡ Some x → Takes bytes (pat_operand x.0) x.1 × (pat_kind x.0 ≡ k) × PatFits x.0
operand_takes k r bytes x found fits e =
    let u = reader_at pat_kind pat_operand PatFits 0 pat_readers k r pat_readers_are found bytes x fits e in
    let code : pat_kind x.0 ≡ k = omega (arith, u.1) in
    (u.0, code, u.2)

-- the operand of an instruction, and the reader of its kind
abbrev pub IsAgain : PatInstr → List ℕ → Type 0
IsAgain i rest = (r : List ℕ → Option (PatInstr × List ℕ)) × (slice_get pat_readers (pat_kind i) ≡ Some r) × (r (pat_operand i ++ rest) ≡ Some (i, rest))

pub operand_again : (i : PatInstr) (rest : List ℕ) → PatFits i → IsAgain i rest
unfolding pat_readers
operand_again (pats.Lit n) rest h = (_, refl, wide_again pats.Lit n rest h)
operand_again (pats.Split n) rest h = (_, refl, distance_again pats.Split n rest h)
operand_again (pats.Jmp n) rest h = (_, refl, distance_again pats.Jmp n rest h)
operand_again (pats.Len n) rest h = (_, refl, long_again pats.Len n rest h)
operand_again (pats.Pos n) rest h = (_, refl, long_again pats.Pos n rest h)
operand_again (pats.RPos n) rest h = (_, refl, long_again pats.RPos n rest h)
operand_again (pats.Tab n) rest h = (_, refl, long_again pats.Tab n rest h)
operand_again (pats.RTab n) rest h = (_, refl, long_again pats.RTab n rest h)
operand_again (pats.Any n) rest h = (_, refl, wide_again pats.Any n rest h)
operand_again (pats.NotAny n) rest h = (_, refl, wide_again pats.NotAny n rest h)
operand_again (pats.Span n) rest h = (_, refl, wide_again pats.Span n rest h)
operand_again (pats.Break n) rest h = (_, refl, wide_again pats.Break n rest h)
