use Rattle.std.proofs.Common.{◌≡◌, ◌++◌, List, subst}
use Rattle.proto_lint_names.proofs.Common.{Found}
use Rattle.proto_lint_rules.specs.declared.rule.Rule.TheVariants as rule
use Rattle.proto_base.proofs.Turns.{then_added}
use Rattle.proto_lint.specs.Packages.{Head, file_name, found_unless, has_directory_like_package, has_directory_of_package, has_lower_snake_file, has_lower_snake_package, has_package, has_package_of_directory, has_version, head_finds, package_unless}
use Rattle.proto_lint.proofs.packages.add_head.Goals as goal

pub returns : goal.returns
returns c = λ (d : Head).
    (let rules = c.args.rules.now.chosen in
    let heads = c.args.heads.now in
    let h : Head = c.get-head.result.now in
    let f0 : List Found = c.args.found.now in
    let f1 : List Found = c.add_package.new.found in
    let f2 : List Found = c.add_file_lower_snake_case.new.found in
    let f3 : List Found = c.add_package-2.new.found in
    let f4 : List Found = c.add_package-3.new.found in
    let f5 : List Found = c.add_package-4.new.found in
    let f6 : List Found = c.add_package-5.new.found in
    let f7 : List Found = c.add_package-6.new.found in
    let f8 : List Found = c.add_syntax_specified.new.found in
    let x1 = package_unless rules rule.DirectorySamePackage (has_package_of_directory heads h) h in
    let x2 = found_unless rules rule.FileLowerSnakeCase (has_lower_snake_file h) 0 (file_name h) in
    let x3 = package_unless rules rule.PackageDefined (has_package h) h in
    let x4 = package_unless rules rule.PackageDirectoryMatch (has_directory_like_package h) h in
    let x5 = package_unless rules rule.PackageLowerSnakeCase (has_lower_snake_package h) h in
    let x6 = package_unless rules rule.PackageSameDirectory (has_directory_of_package heads h) h in
    let x7 = package_unless rules rule.PackageVersionSuffix (has_version h) h in
    let x8 = found_unless rules rule.SyntaxSpecified h.has_syntax 0 h.path in
    let y7 : f8 ≡ f6 ++ (x7 ++ x8) = then_added x7 x8 f6 f7 f8 c.in_ok-add_package-6.ensures c.in_ok-add_syntax_specified.ensures in
    let y6 : f8 ≡ f5 ++ (x6 ++ (x7 ++ x8)) = then_added x6 (x7 ++ x8) f5 f6 f8 c.in_ok-add_package-5.ensures y7 in
    let y5 : f8 ≡ f4 ++ (x5 ++ (x6 ++ (x7 ++ x8))) = then_added x5 (x6 ++ (x7 ++ x8)) f4 f5 f8 c.in_ok-add_package-4.ensures y6 in
    let y4 : f8 ≡ f3 ++ (x4 ++ (x5 ++ (x6 ++ (x7 ++ x8)))) = then_added x4 (x5 ++ (x6 ++ (x7 ++ x8))) f3 f4 f8 c.in_ok-add_package-3.ensures y5 in
    let y3 : f8 ≡ f2 ++ (x3 ++ (x4 ++ (x5 ++ (x6 ++ (x7 ++ x8))))) = then_added x3 (x4 ++ (x5 ++ (x6 ++ (x7 ++ x8)))) f2 f3 f8 c.in_ok-add_package-2.ensures y4 in
    let y2 : f8 ≡ f1 ++ (x2 ++ (x3 ++ (x4 ++ (x5 ++ (x6 ++ (x7 ++ x8)))))) = then_added x2 (x3 ++ (x4 ++ (x5 ++ (x6 ++ (x7 ++ x8))))) f1 f2 f8 c.in_ok-add_file_lower_snake_case.ensures y3 in
    let y1 : f8 ≡ f0 ++ (x1 ++ (x2 ++ (x3 ++ (x4 ++ (x5 ++ (x6 ++ (x7 ++ x8))))))) = then_added x1 (x2 ++ (x3 ++ (x4 ++ (x5 ++ (x6 ++ (x7 ++ x8)))))) f0 f1 f8 c.in_ok-add_package.ensures y2 in
    subst (λ (x : Head). f8 ≡ f0 ++ head_finds rules heads x) (c.get-head.ensures d) y1)
