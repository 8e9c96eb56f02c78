-- What a derivation of a template has to keep beyond its tokens.
use Rattle.std.specs.Prelude.{◌≡◌, Bool, true, false, List, [], ◌∷◌, ◌++◌, map}
use Rattle.source_grammar.specs.Brackets.{is_piece}
use Rattle.source_grammar.specs.Definitions.{mods_tokens, ProperMods, CPar, cpar_rest, items, OnlyLastRepeats, ProperImport}
use Rattle.source_grammar.specs.Expressions.{OfTemplate}
use Rattle.source_grammar.specs.ExpressionRules.{Rule, BindsAll, ProperExpr, ProperExprList, ProperDef, ProperParLists, is_separated}
use Rattle.source_grammar.specs.ExpressionTokens.{sep_tokens, def_tokens}
use Rattle.source_grammar.specs.ExpressionTrees.{expr_built, expr_list_built, def_built}
use Rattle.source_grammar.specs.Newlines.{IsJoined, IsNear, IsJoinedPart}
use Rattle.source_grammar.specs.Templates.{Dcl, ValueDcl, MethodDcl, dcl_tokens, Constructor, NoConstructor, ConstructorOf, ParentArgs, NoParentArgs, EmptyArgs, ArgsOf, Parents, NoParents, Extends, Tmpl, ClassTmpl, TraitTmpl, ObjectTmpl, tmpl_tokens, Body, ParentsAlone, ParentsWith, Stats, LastStat, MoreStats, stats_tokens, Stat, ImportStat, TmplStat, DefStat, DclStat, ExprStat, EmptyStat, BrokenStat, stat_tokens}

abbrev pub ProperDcl : Dcl → Type 0
ProperDcl (ValueDcl word id point type) = Unit {0}
ProperDcl (MethodDcl word id variables lists type) = ProperParLists lists

abbrev pub ProperCPars : List CPar → Type 0
ProperCPars [] = Unit {0}
ProperCPars (cpar ∷ cpars) = ProperMods cpar.mods (cpar_rest cpar) × ProperCPars cpars

-- The modifiers of a constructor stand in the line of what is before them, and a newline may stand before its parenthesis.
abbrev pub ProperConstructor : Constructor → Type 0
ProperConstructor NoConstructor = Unit {0}
ProperConstructor (ConstructorOf mods opening cpars closing) =
    IsJoinedPart (mods_tokens mods) × ProperMods mods [] × IsNear opening
    × ProperCPars (items cpars) × OnlyLastRepeats (map (λ cpar. cpar.par) (items cpars))

abbrev pub is_broken : Stat → Bool
is_broken (BrokenStat xs) = true
is_broken _ = false

module _ (rule : Rule) where
  abbrev pub ProperParentArgs : ParentArgs → Type 0
  ProperParentArgs NoParentArgs = Unit {0}
  ProperParentArgs (EmptyArgs opening closing) = IsJoined opening
  ProperParentArgs (ArgsOf opening exprs closing) =
      IsJoined opening × ProperExprList rule exprs × BindsAll OfTemplate (expr_list_built exprs)

  abbrev pub ProperParents : Parents → Type 0
  ProperParents NoParents = Unit {0}
  ProperParents (Extends word type args mixins) = ProperParentArgs args

  abbrev mutual
    pub ProperTmpl : Tmpl → Type 0
    ProperTmpl (ClassTmpl word id variables constructor body) = ProperConstructor constructor × ProperBody body
    ProperTmpl (TraitTmpl word id variables body) = ProperBody body
    ProperTmpl (ObjectTmpl word id body) = ProperBody body

    pub ProperBody : Body → Type 0
    ProperBody (ParentsAlone ancestors) = ProperParents ancestors
    ProperBody (ParentsWith ancestors opening stats closing) = ProperParents ancestors × IsNear opening × ProperStats stats

    pub ProperStats : Stats → Type 0
    ProperStats (LastStat stat) = ProperStat stat × rule OfTemplate (is_broken stat) (stat_tokens stat) []
    ProperStats (MoreStats stat sep stats) =
        ProperStat stat × rule OfTemplate (is_broken stat) (stat_tokens stat) (sep_tokens sep ++ stats_tokens stats)
        × (is_separated (stat_tokens stat) sep (stats_tokens stats) ≡ true) × ProperStats stats

    -- no expression is around a statement of a template, which could bind its placeholders
    pub ProperStat : Stat → Type 0
    ProperStat (ImportStat i) = ProperImport i
    ProperStat (TmplStat mods tmpl) = ProperMods mods (tmpl_tokens tmpl) × ProperTmpl tmpl
    ProperStat (DefStat mods def) =
        ProperMods mods (def_tokens def) × ProperDef rule OfTemplate def × BindsAll OfTemplate (def_built mods def ∷ [])
    ProperStat (DclStat mods dcl) = ProperMods mods (dcl_tokens dcl) × ProperDcl dcl
    ProperStat (ExprStat expr) = ProperExpr rule expr × BindsAll OfTemplate (expr_built expr ∷ [])
    ProperStat EmptyStat = Unit {0}
    ProperStat (BrokenStat xs) = is_piece xs ≡ true
