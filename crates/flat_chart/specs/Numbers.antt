-- What the code's charts and rows are, each set as one number. Assumes nothing.
use Rattle.wide.specs.Number.{number, rows_of}
use Rattle.flat_chart.specs.Flat.{FlatChart, Row}
use Rattle.flat_chart.specs.declared.FlatChart as code-chart
use Rattle.flat_chart.specs.declared.LentChart as lent-chart
use Rattle.flat_chart.specs.declared.Row as code_row

abbrev pub flat_of : code-chart.FlatChart → FlatChart
flat_of c =
    record {
      count = c.count;
      conditions = rows_of c.conditions;
      responses = rows_of c.responses;
      milestones = rows_of c.milestones;
      includes = rows_of c.includes;
      excludes = rows_of c.excludes;
      roles = c.roles;
    }

-- a lent chart, by what stands in its tables
abbrev pub lent_of : lent-chart.LentChart → FlatChart
lent_of c =
    record {
      count = c.count;
      conditions = rows_of c.conditions.now;
      responses = rows_of c.responses.now;
      milestones = rows_of c.milestones.now;
      includes = rows_of c.includes.now;
      excludes = rows_of c.excludes.now;
      roles = c.roles.now;
    }

abbrev pub row_numbers : code_row.Row → Row
row_numbers r =
    record {
      conditions = number r.conditions;
      responses = number r.responses;
      milestones = number r.milestones;
      includes = number r.includes;
      excludes = number r.excludes;
      roles = r.roles;
    }
